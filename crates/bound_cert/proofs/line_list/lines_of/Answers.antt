use Rattle.std.proofs.Common.{◌≡◌, ◌≢◌, ◌+◌, ◌++◌, ◌∷◌, [], List, None, Some, length, ap, ◌∙◌, sym, subst, arith, rules, ℕ}
use Rattle.std.specs.List.{AllByRecursion}
use Rattle.std.proofs.lemmas.List.{map-append, length-append, length-map}
use Rattle.bound_cert.specs.declared.place.Place.TheVariants.{AtTitle, Past}
use Rattle.bound_cert.specs.Lines.{Entry, IsLine, entry_of}
use Rattle.bound_cert.specs.Grammar.{after, after_all, entries_of, text_of, IsFirstBadLine}
use Rattle.bound_cert.proofs.Reading.{HasRoom, after_more, lawful_more, split_more, room_next, bad_here, not_placed}
use Rattle.bound_cert.proofs.line_list.lines_of.Goals as goal

pub returns-in_default-after-clause-bad : goal.returns-in_default-after-clause-bad
returns-in_default-after-clause-bad c =
    let inv = c.loop-place.invariant in
    let e : Entry = entry_of c.in-Some.line in
    let ne : c.loop-place.place ≢ Past = λ p. let t = c.is_past.ensures.1 p in cc in
    let none : after c.loop-place.place e ≡ None = cc in
    let many : length c.loop-place.lines.items ≡ c.len-in_default-after.result = search rules in
    let lines : length (entries_of c.loop-place.lines.items) + 1 ≡ c.len-in_default-after.result + 1 = omega (arith, many, length-map c.loop-place.lines.items entry_of) in
    rw c.bad_line-in_default-after.ensures (subst (λ (k : ℕ). IsFirstBadLine c.args.text.now k) lines
    (bad_here c.args.text.now c.loop-place.rest.now (entries_of c.loop-place.lines.items) c.loop-place.place inv.split inv.lawful inv.placed
    (not_placed c.loop-place.place c.loop-place.rest.now c.in-Some.behind.now e ne c.in-Some.ensures.found.0 c.in-Some.ensures.found.1 none)))

pub loop-place-preserved : goal.loop-place-preserved
loop-place-preserved c =
    let inv = c.loop-place.invariant in
    let ls = c.loop-place.lines.items in
    let es : List Entry = entries_of ls in
    let e : Entry = entry_of c.in-Some.line in
    let a : after c.loop-place.place e ≡ Some c.in-Some-after.next = sym c.in-Some-after.ensures in
    let p : c.push.new.self.items ≡ ls ++ c.in-Some.line ∷ [] = search (rules, c.push.ensures.items) in
    let m : entries_of c.push.new.self.items ≡ es ++ e ∷ [] = ap entries_of p ∙ map-append entry_of ls (c.in-Some.line ∷ []) in
    let n : length c.push.new.self.items ≡ length ls + 1 = omega (arith, ap length p, length-append ls (c.in-Some.line ∷ [])) in
    record {
      lawful = subst (AllByRecursion IsLine) (sym m) (lawful_more es e inv.lawful c.in-Some.ensures.found.0);
      placed = subst (λ (x : List Entry). after_all AtTitle x ≡ Some c.in-Some-after.next) (sym m) (after_more AtTitle c.loop-place.place c.in-Some-after.next es e inv.placed a);
      split = split_more c.args.text.now c.loop-place.rest.now c.in-Some.behind.now es e inv.split c.in-Some.ensures.found.1 ∙ ap (λ (x : List Entry). text_of x ++ c.in-Some.behind.now) (sym m);
      room = subst (HasRoom c.in-Some-after.next) (sym n) (room_next c.loop-place.place c.in-Some-after.next e (length ls) inv.room a);
    }
