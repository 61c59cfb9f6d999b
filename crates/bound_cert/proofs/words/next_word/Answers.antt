use Rattle.std.proofs.Common.{◌+◌, ◌-◌, ◌∷◌, length, take, drop, ap, ◌∙◌, sym, arith}
use Rattle.std.proofs.lemmas.List.{take_all, length-drop}
use Rattle.std.proofs.lemmas.List.Splits.{slice_split_none}
use Rattle.bound_cert.specs.Words.{rest_words, is_space, words}
use Rattle.bound_cert.proofs.Splitting.{split_at_place}
use Rattle.bound_cert.proofs.words.next_word.Goals as goal

pub returns-in-Some-clause-some : goal.returns-in-Some-clause-some
returns-in-Some-clause-some c =
    let h = c.in-Some.ensures.some in
    let text = c.in_ok-text.text.now in
    ap rest_words c.in_ok-text.was ∙ split_at_place is_space text c.in-Some.place 0 h.0 h.1 h.2
    ∙ ap (λ r. take c.in-Some.place text ∷ words r) (sym (take_all (length text - (c.in-Some.place + 1)) (drop (c.in-Some.place + 1) text) (omega (arith, length-drop (c.in-Some.place + 1) text))))

pub returns-in-None-clause-some : goal.returns-in-None-clause-some
returns-in-None-clause-some c =
    ap rest_words c.in_ok-text.was ∙ slice_split_none is_space c.in_ok-text.text.now c.in-None.ensures.none
