-- The first of the lines of nodes and gives.
use Rattle.std.proofs.Common.{◌≡◌, ◌≢◌, ℕ, zero, suc, ◌≤◌, List, [], ◌∷◌, ◌++◌, Bool, cond, Option, Some, None, length, map, take, drop, refl, sym, ◌∙◌, ap, subst, arith}
use Rattle.std.specs.List.{AllByRecursion}
use Rattle.std.specs.Prelude.{All}
use denote.Ref.{Bor}
use Rattle.std.proofs.lemmas.List.{length-map, length-take, map-append, take-append-drop}
use Rattle.std.proofs.lemmas.List.Elements.{All-from_recursion}
use Rattle.bound_cert.specs.declared.place.Place.{Place}
use Rattle.bound_cert.specs.declared.place.Place.TheVariants.{AtNode, AtGive, Past}
use Rattle.bound_cert.specs.declared.text_line.TextLine.{TextLine}
use Rattle.bound_cert.specs.declared.text_line.TextLine.TheVariants as code
use Rattle.bound_cert.specs.declared.multipliers.Give.{Give as GiveValue}
use Rattle.bound_cert.specs.Documents.{give_entry}
use Rattle.bound_cert.specs.Lines.{Entry, Give, End, entry_of}
use Rattle.bound_cert.specs.Grammar.{LeadsOn, LeadsOnNodes, LeadsOnGives, IsGiveLine, after, after_all, after_node, after_end, at_gives, entries_of}
use Rattle.bound_cert.proofs.Places.{two_steps}
use Rattle.bound_cert.proofs.Placing.{leads_next, not_zero, at_node, at_give, at_give_line}

-- nothing stands behind the last line
past_last : (es : List Entry) → LeadsOn Past es → es ≡ []
past_last [] h = refl
past_last (e ∷ es) h = let n : None ≡ Some Past = h.placed in absurd cc

end_at : (n : ℕ) (es : List Entry) → LeadsOn (AtNode n) (End ∷ es) → es ≡ []
end_at zero es h = past_last es (leads_next (AtNode 0) Past End es refl h).1
end_at (suc n) es h =
    let s = two_steps (λ x. after_all x es) (after (AtNode (suc n)) End) Past h.placed in
    let none : None ≡ Some s.0 = sym (at_node n End) ∙ s.1 in
    absurd cc

pub end_is_last : (ls rest : List TextLine) (l : TextLine) → LeadsOnNodes (entries_of ls) → ls ≡ l ∷ rest → l ≡ code.End → entries_of ls ≡ End ∷ []
end_is_last ls rest l h is end =
    let line : entries_of ls ≡ End ∷ entries_of rest = ap entries_of is ∙ ap (λ (x : TextLine). entry_of x ∷ entries_of rest) end in
    line ∙ ap (λ (r : List Entry). End ∷ r) (end_at h.nodes (entries_of rest) (subst (λ (es : List Entry). LeadsOn (AtNode h.nodes) es) line h.leads))

-- the gives at the front of lines
pub record GivesFront (n : ℕ) (ls : List TextLine) : Type 0 where
  pub within : n ≤ length ls
  pub each : AllByRecursion IsGiveLine (take n ls)
  pub behind : LeadsOnNodes (entries_of (drop n ls))

still_gives : (n nodes : ℕ) (last : Option (ℕ × ℕ)) (ls : List TextLine) → LeadsOn (at_gives nodes (suc n) last) (entries_of ls) → LeadsOn (AtGive nodes (suc n) last) (entries_of ls)
still_gives n nodes last ls h = subst (λ (c : Bool). LeadsOn (cond c (AtNode nodes) (AtGive nodes (suc n) last)) (entries_of ls)) (not_zero n) h

gives_front_at : (n nodes : ℕ) (last : Option (ℕ × ℕ)) (ls : List TextLine) → LeadsOn (at_gives nodes n last) (entries_of ls) → GivesFront n ls
gives_front_at zero nodes last ls h = record { within = omega arith; each = tt; behind = record { nodes = nodes; leads = h } }
gives_front_at (suc n) nodes last [] h =
    let k = still_gives n nodes last [] h in
    let e : Some (AtGive nodes (suc n) last) ≡ Some Past = k.placed in
    absurd cc
gives_front_at (suc n) nodes last (code.Give c f a b ∷ ls) h =
    let k = still_gives n nodes last (code.Give c f a b ∷ ls) h in
    let s = two_steps (λ x. after_all x (entries_of ls)) (after (AtGive nodes (suc n) last) (Give c f a b)) Past k.placed in
    let at = at_give nodes n last c f a b s.0 s.1 in
    let more = gives_front_at n nodes (Some (c, f)) ls (subst (λ (p : Place). LeadsOn p (entries_of ls)) at.1 (record { lawful = k.lawful.1; placed = s.2 })) in
    record { within = omega (arith, more.within); each = ((c, f, a, b, refl), more.each); behind = more.behind }
gives_front_at (suc n) nodes last (l ∷ ls) h =
    let k = still_gives n nodes last (l ∷ ls) h in
    let s = two_steps (λ y. after_all y (entries_of ls)) (after (AtGive nodes (suc n) last) (entry_of l)) Past k.placed in
    let none = sym (at_give_line nodes n last (entry_of l)) ∙ s.1 in
    absurd (cc (none))

pub gives_front : (n : ℕ) (ls : List TextLine) → LeadsOnGives n (entries_of ls) → GivesFront n ls
gives_front n ls h = gives_front_at n h.nodes h.last ls h.leads

pub all_gives : (ls : List TextLine) → AllByRecursion IsGiveLine ls → All IsGiveLine ls
all_gives ls h = All-from_recursion _ ls h

-- the lines of gives, and those behind them
pub gives_lines : (n : ℕ) (ls : List TextLine) (gs : List GiveValue) → map give_entry gs ≡ entries_of (take n ls) → entries_of ls ≡ map give_entry gs ++ entries_of (drop n ls)
gives_lines n ls gs is =
    ap entries_of (sym (take-append-drop n ls)) ∙ map-append entry_of (take n ls) (drop n ls) ∙ ap (λ (es : List Entry). es ++ entries_of (drop n ls)) (sym is)

pub gives_many : (n : ℕ) (ls : List TextLine) (gs : List GiveValue) → n ≤ length ls → map give_entry gs ≡ entries_of (take n ls) → length gs ≡ n
gives_many n ls gs le is = omega (arith, ap length is, length-map gs give_entry, length-map (take n ls) entry_of, length-take n ls)

-- a node is a line of one of four kinds
no_node : (n : ℕ) (e : Entry) (es : List Entry) → LeadsOn (AtNode n) (e ∷ es) → after_end e ≡ None → ((m : ℕ) → after_node m e ≡ None) → ⊥
no_node zero e es h end node =
    let s = two_steps (λ x. after_all x es) (after (AtNode 0) e) Past h.placed in
    let none : None ≡ Some s.0 = sym end ∙ s.1 in
    absurd cc
no_node (suc n) e es h end node =
    let s = two_steps (λ x. after_all x es) (after (AtNode (suc n)) e) Past h.placed in
    let none : None ≡ Some s.0 = sym (node n) ∙ sym (at_node n e) ∙ s.1 in
    absurd cc

pub some_node : (ls rest : List TextLine) (l : TextLine) → LeadsOnNodes (entries_of ls) → entries_of ls ≢ End ∷ [] → ls ≡ l ∷ rest
    → ((f : ℕ) (x y : Bor (List ℕ)) (a b : ℕ) → l ≡ code.Branch f x y a b → ⊥) → (l ≡ code.Low → ⊥) → (l ≡ code.High → ⊥) → ((p q k : ℕ) → l ≡ code.Leaf p q k → ⊥) → ⊥
some_node ls rest (code.Branch f x y a b) h more is branch low high leaf = branch f x y a b refl
some_node ls rest code.Low h more is branch low high leaf = low refl
some_node ls rest code.High h more is branch low high leaf = high refl
some_node ls rest (code.Leaf p q k) h more is branch low high leaf = leaf p q k refl
some_node ls rest code.End h more is branch low high leaf = more (end_is_last ls rest code.End h is refl)
some_node ls rest l h more is branch low high leaf =
    no_node h.nodes (entry_of l) (entries_of rest) (subst (λ (xs : List TextLine). LeadsOn (AtNode h.nodes) (entries_of xs)) is h.leads) refl (λ m. refl)
