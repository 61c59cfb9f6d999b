-- Texts of lines, one behind another.
use Rattle.std.proofs.Common.{◌≡◌, ℕ, ◌+◌, ◌<◌, List, [], ◌∷◌, ◌++◌, length, take, map, get_or, sym, ◌∙◌, ap, append_assoc}
use Rattle.std.specs.List.{flat_map}
use Rattle.std.proofs.lemmas.List.{take_more, map-append, append-nil}
use Rattle.std.proofs.lemmas.Grind.{flat_map-append}
use Rattle.bound_cert.specs.declared.multipliers.Give.{Give}
use Rattle.bound_cert.specs.declared.node_line.NodeLine.{NodeLine}
use Rattle.bound_cert.specs.declared.heading.Heading.{Heading}
use Rattle.bound_cert.specs.Lines.{Entry, Title, Span, Answered, line_text}
use Rattle.bound_cert.specs.Grammar.{text_of}
use Rattle.bound_cert.specs.Documents.{give_entry, node_entries, heading_entries, pins_entries, version_of, plan_entry, bound_entry}

pub text_of-append : (xs ys : List Entry) → text_of (xs ++ ys) ≡ text_of xs ++ text_of ys
text_of-append xs ys = flat_map-append (λ e. line_text e ++ 10 ∷ []) xs ys

-- one give more
pub gives_more : (gives : List Give) (i : ℕ) (g : Give) (out : List ℕ) → i < length gives → g ≡ get_or gives i g
    → (out ++ text_of (map give_entry (take i gives))) ++ (line_text (give_entry g) ++ 10 ∷ []) ≡ out ++ text_of (map give_entry (take (i + 1) gives))
gives_more gives i g out lt is =
    let whole : take (i + 1) gives ≡ take i gives ++ g ∷ [] = take_more gives i g lt ∙ ap (λ (x : Give). take i gives ++ x ∷ []) (sym is) in
    let mapped : map give_entry (take (i + 1) gives) ≡ map give_entry (take i gives) ++ give_entry g ∷ [] = ap (map give_entry) whole ∙ map-append give_entry (take i gives) (g ∷ []) in
    append_assoc out (text_of (map give_entry (take i gives))) (line_text (give_entry g) ++ 10 ∷ [])
    ∙ ap (λ r. out ++ r) (ap (λ r. text_of (map give_entry (take i gives)) ++ r) (sym (append-nil (line_text (give_entry g) ++ 10 ∷ [])))
    ∙ sym (ap text_of mapped ∙ text_of-append (map give_entry (take i gives)) (give_entry g ∷ [])))

-- one node more
pub nodes_more : (nodes : List NodeLine) (i : ℕ) (n : NodeLine) (out : List ℕ) → i < length nodes → n ≡ get_or nodes i n
    → (out ++ text_of (flat_map node_entries (take i nodes))) ++ text_of (node_entries n) ≡ out ++ text_of (flat_map node_entries (take (i + 1) nodes))
nodes_more nodes i n out lt is =
    let whole : take (i + 1) nodes ≡ take i nodes ++ n ∷ [] = take_more nodes i n lt ∙ ap (λ (x : NodeLine). take i nodes ++ x ∷ []) (sym is) in
    let flat : flat_map node_entries (take (i + 1) nodes) ≡ flat_map node_entries (take i nodes) ++ (node_entries n ++ []) = ap (flat_map node_entries) whole ∙ flat_map-append node_entries (take i nodes) (n ∷ []) in
    append_assoc out (text_of (flat_map node_entries (take i nodes))) (text_of (node_entries n))
    ∙ ap (λ r. out ++ r) (ap (λ r. text_of (flat_map node_entries (take i nodes)) ++ text_of r) (sym (append-nil (node_entries n)))
    ∙ sym (ap text_of flat ∙ text_of-append (flat_map node_entries (take i nodes)) (node_entries n ++ [])))

-- the lines of a heading, one behind another
pub heading_shape : (o t s x a p b : List ℕ)
    → ((((((((((o ++ t) ++ 10 ∷ []) ++ s) ++ 10 ∷ []) ++ x) ++ a) ++ 10 ∷ []) ++ p) ++ 10 ∷ []) ++ b) ++ 10 ∷ []
    ≡ o ++ ((t ++ 10 ∷ []) ++ ((s ++ 10 ∷ []) ++ (x ++ ((a ++ 10 ∷ []) ++ ((p ++ 10 ∷ []) ++ ((b ++ 10 ∷ []) ++ []))))))
heading_shape o t s x a p b = simp (append_assoc, append-nil)

pub heading_written : (o o1 o2 o3 o4 o5 o6 : List ℕ) (h : Heading)
    → o1 ≡ (o ++ line_text (Title (version_of h.pins))) ++ 10 ∷ [] → o2 ≡ (o1 ++ line_text (Span h.range.low h.range.high)) ++ 10 ∷ [] → o3 ≡ o2 ++ text_of (pins_entries h.pins)
    → o4 ≡ (o3 ++ line_text (Answered h.answer)) ++ 10 ∷ [] → o5 ≡ (o4 ++ line_text (plan_entry h.plan)) ++ 10 ∷ [] → o6 ≡ (o5 ++ line_text (bound_entry h.bound)) ++ 10 ∷ []
    → o6 ≡ o ++ text_of (heading_entries h)
heading_written o o1 o2 o3 o4 o5 o6 h e1 e2 e3 e4 e5 e6 =
    let t : List ℕ = line_text (Title (version_of h.pins)) in
    let s : List ℕ = line_text (Span h.range.low h.range.high) in
    let x : List ℕ = text_of (pins_entries h.pins) in
    let a : List ℕ = line_text (Answered h.answer) in
    let p : List ℕ = line_text (plan_entry h.plan) in
    let b : List ℕ = line_text (bound_entry h.bound) in
    let f2 : o2 ≡ (((o ++ t) ++ 10 ∷ []) ++ s) ++ 10 ∷ [] = e2 ∙ ap (λ (r : List ℕ). (r ++ s) ++ 10 ∷ []) e1 in
    let f3 = e3 ∙ ap (λ (r : List ℕ). r ++ x) f2 in
    let f4 = e4 ∙ ap (λ (r : List ℕ). (r ++ a) ++ 10 ∷ []) f3 in
    let f5 = e5 ∙ ap (λ (r : List ℕ). (r ++ p) ++ 10 ∷ []) f4 in
    let f6 = e6 ∙ ap (λ (r : List ℕ). (r ++ b) ++ 10 ∷ []) f5 in
    f6 ∙ heading_shape o t s x a p b
    ∙ ap (λ (r : List ℕ). o ++ ((t ++ 10 ∷ []) ++ ((s ++ 10 ∷ []) ++ r))) (sym (text_of-append (pins_entries h.pins) (Answered h.answer ∷ plan_entry h.plan ∷ bound_entry h.bound ∷ [])))
