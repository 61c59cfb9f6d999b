-- Maps with each value made another: what each call of a map does to them.
use Rattle.std.proofs.Common.{◌≡◌, ℕ, List, [], ◌∷◌, Bool, true, false, Option, Some, None, refl, sym, ◌∙◌, ap}
use Rattle.std.specs.Prelude.{map as each, cond, is_some}
use Rattle.std.specs.Option.{option_map}
use Rattle.std.specs.Ordering.{eq_by_cmp}
use Rattle.std.specs.Cmp.Lexicographic.{nat_list_cmp_total}
use Rattle.std.specs.FinMap as map
use Rattle.site_forms.specs.Volumes.{bytes_cmp}
use Rattle.volume_index.specs.MapValues.{map_values}

-- names that tie are equal
pub same_names : map.IsAntisymmetric bytes_cmp
same_names = map.slice_cmp-IsAntisymmetric map.nat_cmp-IsAntisymmetric

module _ {X Y : Type 0} (f : X → Y) where
  -- a choice of an entry, and of what f makes of it
  picked : (b : Bool) (v : X) (o : Option X) → cond b (Some (f v)) (option_map f o) ≡ option_map f (cond b (Some v) o)
  picked true v o = refl
  picked false v o = refl

  dropped : (b : Bool) (o : Option X) → cond b None (option_map f o) ≡ option_map f (cond b None o)
  dropped true o = refl
  dropped false o = refl

  find_each : (q : List ℕ) (es : List (List ℕ × X)) → map.find bytes_cmp q (each (λ e. (e.0, f e.1)) es) ≡ option_map f (map.find bytes_cmp q es)
  find_each q [] = refl
  find_each q (e ∷ es) = ap (cond (eq_by_cmp bytes_cmp q e.0) (Some (f e.1))) (find_each q es) ∙ picked (eq_by_cmp bytes_cmp q e.0) e.1 (map.find bytes_cmp q es)

  pub get-map_values : (m : map.FinMap bytes_cmp X) (q : List ℕ) → map.get (map_values f m) q ≡ option_map f (map.get m q)
  get-map_values m q = map.get-from_entries nat_list_cmp_total (each (λ e. (e.0, f e.1)) (map.entries m)) q ∙ find_each q (map.entries m) ∙ ap (option_map f) (sym (map.get-entries m q))

  is_some_map : (o : Option X) → is_some (option_map f o) ≡ is_some o
  is_some_map None = refl
  is_some_map (Some x) = refl

  pub contains-map_values : (m : map.FinMap bytes_cmp X) (q : List ℕ) → map.contains_key (map_values f m) q ≡ map.contains_key m q
  contains-map_values m q = ap is_some (get-map_values m q) ∙ is_some_map (map.get m q)

  pub insert-map_values : (m : map.FinMap bytes_cmp X) (k : List ℕ) (v : X) → map_values f (map.insert m k v) ≡ map.insert (map_values f m) k (f v)
  insert-map_values m k v = map.same_map nat_list_cmp_total same_names _ _ (λ q.
      get-map_values (map.insert m k v) q
      ∙ ap (option_map f) (map.get-insert nat_list_cmp_total m k v q)
      ∙ sym (picked (eq_by_cmp bytes_cmp q k) v (map.get m q))
      ∙ ap (cond (eq_by_cmp bytes_cmp q k) (Some (f v))) (sym (get-map_values m q))
      ∙ sym (map.get-insert nat_list_cmp_total (map_values f m) k (f v) q))

  pub remove-map_values : (m : map.FinMap bytes_cmp X) (k : List ℕ) → map_values f (map.remove m k) ≡ map.remove (map_values f m) k
  remove-map_values m k = map.same_map nat_list_cmp_total same_names _ _ (λ q.
      get-map_values (map.remove m k) q
      ∙ ap (option_map f) (map.get-remove nat_list_cmp_total m k q)
      ∙ sym (dropped (eq_by_cmp bytes_cmp q k) (map.get m q))
      ∙ ap (cond (eq_by_cmp bytes_cmp q k) None) (sym (get-map_values m q))
      ∙ sym (map.get-remove nat_list_cmp_total (map_values f m) k q))

  pub empty-map_values : map_values f map.empty ≡ map.empty
  empty-map_values = map.same_map nat_list_cmp_total same_names _ _ (λ q.
      get-map_values map.empty q ∙ ap (option_map f) (map.get-empty bytes_cmp q) ∙ sym (map.get-empty bytes_cmp q))
