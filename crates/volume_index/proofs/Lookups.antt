-- Maps made of the entries of a table: look-ups, lengths, and names in order.
use Rattle.std.proofs.Common.{◌≡◌, ℕ, ◌+◌, List, [], ◌∷◌, length, Bool, true, false, cond, Some, None, refl, sym, ◌∙◌, ap, subst, arith}
use Rattle.std.specs.Prelude.{map as each, is_some, nat_eq}
use Rattle.std.specs.List.{IsDistinct, AllByRecursion}
use Rattle.std.specs.Map.{lookup}
use Rattle.std.specs.Cmp.Lexicographic.{pointwise, nat_list_cmp_total, texts_ties}
use lib.Dec.{T}
use Rattle.std.specs.FinMap as map
use Rattle.std.proofs.lemmas.Map.Keys.{IsDistinct-head, IsDistinct-tail}
use Rattle.site_forms.specs.Volumes.{bytes_cmp}
use Rattle.volume_index.proofs.MapValues.{same_names}

module _ {X : Type 0} where
  -- LOOK-UPS

  pub find-lookup : (q : List ℕ) (es : List (List ℕ × X)) → lookup (pointwise nat_eq q) es ≡ map.find bytes_cmp q es
  find-lookup q [] = refl
  find-lookup q (e ∷ es) = λ i. cond (texts_ties q e.0 i) (Some e.1) (find-lookup q es i)

  pub get-lookup : (es : List (List ℕ × X)) (q : List ℕ) → map.get (map.from_entries {R = bytes_cmp} es) q ≡ lookup (pointwise nat_eq q) es
  get-lookup es q = map.get-from_entries nat_list_cmp_total es q ∙ sym (find-lookup q es)

  no_key : (q : List ℕ) (es : List (List ℕ × X)) → AllByRecursion (λ y. pointwise nat_eq q y ≡ false) (each (λ e. e.0) es) → lookup (pointwise nat_eq q) es ≡ None
  no_key q [] none = refl
  no_key q (e ∷ es) none = ap (λ (b : Bool). cond b (Some e.1) (lookup (pointwise nat_eq q) es)) none.0 ∙ no_key q es none.1

  -- keys that differ are counted each
  pub len-distinct : (es : List (List ℕ × X)) → IsDistinct (pointwise nat_eq) (each (λ e. e.0) es) → map.len (map.from_entries {R = bytes_cmp} es) ≡ length es
  len-distinct [] apart = map.len-empty bytes_cmp X
  len-distinct (e ∷ es) apart =
      let rest = map.from_entries {R = bytes_cmp} es in
      let others = each (λ (x : List ℕ × X). x.0) es in
      let absent : map.contains_key rest e.0 ≡ false =
      ap is_some (get-lookup es e.0 ∙ no_key e.0 es (IsDistinct-head (pointwise nat_eq) e.0 others apart)) in
      let more : map.len (map.insert rest e.0 e.1) ≡ map.len rest + 1 =
      map.len-insert nat_list_cmp_total rest e.0 e.1 ∙ ap (λ (b : Bool). cond b (map.len rest) (map.len rest + 1)) absent in
      let same : map.len rest ≡ length es = len-distinct es (IsDistinct-tail (pointwise nat_eq) e.0 others apart) in
      omega (arith, more, same)

  -- entries in the order of their keys are those of their map
  pub entries-in_order : (es : List (List ℕ × X)) → map.is_sorted bytes_cmp es ≡ true → map.entries (map.from_entries {R = bytes_cmp} es) ≡ es
  entries-in_order es rising =
      let rises : T (map.is_sorted bytes_cmp es) = subst T (sym rising) tt in
      ap map.entries (map.same_map nat_list_cmp_total same_names (map.from_entries {R = bytes_cmp} es) (map.from_sorted es) (λ q. map.get-from_entries nat_list_cmp_total es q ∙ sym (map.get-from_sorted bytes_cmp es q rises)))
      ∙ map.entries-from_sorted bytes_cmp es rises
