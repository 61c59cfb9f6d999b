-- An empty block behind the others.
use Rattle.std.proofs.Common.{◌≡◌, ◌∙◌, ◌+◌, ◌-◌, ◌*◌, ◌<◌, ◌≤◌, ◌∷◌, [], ◌++◌, ℕ, List, sym, ap, length, get_or, arith, inl, inr}
use Rattle.std.specs.List.{concat}
use Rattle.std.proofs.lemmas.Bool.{cases_lt}
use Rattle.std.proofs.lemmas.List.{get_or_append_left, get_or_push, length_push}
use Rattle.tiered_list.specs.Inside.{AreParts, AreTiers, room_of, width}
use Rattle.tiered_list.proofs.Parts.{joined, past}

pub grown : (bs : List (List ℕ)) → AreTiers bs → AreParts (bs ++ [] ∷ []) (concat bs)
grown bs tiers =
    let long = length_push bs [] in
    record {
      each = λ j lt. elim (cases_lt j (length bs)) [
        | inl before ↦ get_or_append_left bs ([] ∷ []) [] j before ∙ tiers.each j before
        | inr last ↦ get_or_push bs [] [] j (omega (arith, lt, last, long)) ∙ sym (past width (j * width) (concat bs) (omega (arith, last, tiers.within)))
      ];
      within = omega (arith, long, tiers.within);
    }

pub grown_room : (bs : List (List ℕ)) → AreTiers bs → room_of (bs ++ [] ∷ []) ≡ room_of bs + width
grown_room bs tiers = omega (arith, length_push bs [], tiers.within, ap length (joined (bs ++ [] ∷ []) (concat bs) (grown bs tiers)))
