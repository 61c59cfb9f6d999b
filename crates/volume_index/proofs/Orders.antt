-- The numbers of entries in the order of their names, where an entry joins or leaves.
use Rattle.std.proofs.Common.{◌≡◌, ◌≢◌, ℕ, zero, suc, ◌+◌, ◌-◌, ◌<◌, ◌≤◌, List, [], ◌∷◌, ◌++◌, length, get_or, set, take, drop, true, false, Option, Some, None, refl, sym, ◌∙◌, ap, subst, arith, ⊎_elim, length-append, length-set}
use Rattle.std.specs.Prelude.{map as each, is_some, slice_get, All}
use Rattle.std.specs.FinMap.Entries.{is_some-find}
use Rattle.std.proofs.lemmas.Option.{slice_get_within, get_or_from_slice_get}
use Rattle.std.specs.List.{insert, remove, swap_remove}
use Rattle.std.specs.Cmp.Lexicographic.{nat_list_cmp_total}
use Rattle.std.specs.FinMap as map
use Rattle.std.proofs.lemmas.Bool.{true≢false, cases_eq, cases_lt}
use Rattle.std.proofs.lemmas.List.{length-map, get_or_append_left, get_or_at, get_or-take, get_or-set_other, get_or-set_same, get_or_default, length-take-le, ext_get_or}
use Rattle.std.proofs.lemmas.List.Edits.{length-remove, get_or-remove_below, get_or-remove_above}
use Rattle.std.proofs.lemmas.List.Elements.{All-append, All-take, All-drop, All-cons, All-weaker, All-head, All-tail, All-get_or, All-from_get_or}
use Rattle.site_forms.specs.Volumes.{bytes_cmp}
use Rattle.volume_index.proofs.MapValues.{same_names}
use Rattle.volume_index.proofs.Ranks.{each_insert, each_remove, keys_with, one_place, rank_found, listed_at}
use Rattle.volume_index.specs.declared.chunk_table.ChunkEntry.{ChunkEntry}
use Rattle.volume_index.specs.ChunkTables.{Entries, name_at, new_entry, IsOrder, IsRank}

-- the map of a list of entries
abbrev Listed : Type 0
Listed = List (List ℕ × ChunkEntry)

abbrev map_of : Listed → Entries
map_of es = map.from_entries {R = bytes_cmp} es

each_same : (f g : ℕ → List ℕ) (ks : List ℕ) → All (λ k. f k ≡ g k) ks → each f ks ≡ each g ks
each_same f g [] all = refl
each_same f g (k ∷ ks) all = λ i. All-head (λ k. f k ≡ g k) k ks all i ∷ each_same f g ks (All-tail (λ k. f k ≡ g k) k ks all) i

each_at : {A B : Type 0} (f : A → B) (xs : List A) (j : ℕ) (d : A) (e : B) → j < length xs → get_or (each f xs) j e ≡ f (get_or xs j d)
each_at f [] j d e inside = absurd (omega (arith, inside))
each_at f (x ∷ xs) zero d e inside = refl
each_at f (x ∷ xs) (suc j) d e inside = each_at f xs j d e (omega (arith, inside))

lacks : (o : Option ChunkEntry) → is_some o ≡ false → o ≡ None
lacks None is = refl
lacks (Some e) is = absurd (true≢false is)

-- an entry that joins at the end gets the next number, at the rank of its name
pub order_with : (es : Listed) (order : List ℕ) (name : List ℕ) (e : ChunkEntry) (rank : ℕ) → IsOrder es order → IsRank (map.keys (map_of es)) name rank → map.contains_key (map_of es) name ≡ false
    → IsOrder (es ++ (name, e) ∷ []) (insert order rank (length es))
order_with es order name e rank is ranked lacking =
    let more = es ++ (name, e) ∷ [] in
    let longer : length more ≡ length es + 1 = length-append es ((name, e) ∷ []) in
    let wider : All (λ number. number < length more) order = All-weaker (λ number. number < length es) (λ number. number < length more) (λ number less. omega (arith, less, longer)) order is.within in
    let none : map.find bytes_cmp name es ≡ None = sym (map.get-from_entries nat_list_cmp_total es name) ∙ lacks (map.get (map_of es) name) lacking in
    record {
      within = All-append (λ number. number < length more) (take rank order) (length es ∷ drop rank order) (All-take (λ number. number < length more) rank order wider)
          (All-cons (λ number. number < length more) (length es) (drop rank order) (omega (arith, longer)) (All-drop (λ number. number < length more) rank order wider));
      names =
          each_insert (name_at more) order rank (length es)
          ∙ ap (λ (l : List (List ℕ)). insert l rank (name_at more (length es)))
          (each_same (name_at more) (name_at es) order (All-weaker (λ number. number < length es) (λ number. name_at more number ≡ name_at es number)
          (λ number less. ap (λ (x : List ℕ × ChunkEntry). x.0) (get_or_append_left es ((name, e) ∷ []) ([], new_entry 0 0) number less)) order is.within))
          ∙ ap (λ (n : List ℕ). insert (each (name_at es) order) rank n) (ap (λ (x : List ℕ × ChunkEntry). x.0) (get_or_at es (name, e) [] ([], new_entry 0 0) (length es) refl))
          ∙ ap (λ (l : List (List ℕ)). insert l rank name) is.names
          ∙ sym (keys_with (map_of es) name rank ranked e lacking)
          ∙ ap (λ (m : Entries). map.keys m) (sym (map.from_entries_push nat_list_cmp_total same_names es name e none));
    }

-- LISTS THAT DIFFER AT ONE PLACE

remove_same : (xs ys : List (List ℕ)) (rank : ℕ) → length xs ≡ length ys → ((j : ℕ) → j < length xs → j ≢ rank → get_or xs j [] ≡ get_or ys j []) → remove xs rank ≡ remove ys rank
remove_same [] [] rank long same = refl
remove_same [] (y ∷ ys) rank long same = absurd (omega (arith, long))
remove_same (x ∷ xs) [] rank long same = absurd (omega (arith, long))
remove_same (x ∷ xs) (y ∷ ys) zero long same = ext_get_or [] xs ys (omega (arith, long)) (λ j inside. same (suc j) (omega (arith, inside)) (λ is. absurd (omega (arith, is))))
remove_same (x ∷ xs) (y ∷ ys) (suc rank) long same =
    λ i. same zero (omega arith) (λ is. absurd (omega (arith, is))) i ∷ remove_same xs ys rank (omega (arith, long)) (λ j inside apart. same (suc j) (omega (arith, inside)) (λ is. apart (omega (arith, is)))) i

-- AN ENTRY THAT LEAVES: the last one takes its number

-- what is known where an entry leaves
pub record Leaves (es : Listed) (order : List ℕ) (number rank last : ℕ) (name last_name : List ℕ) : Type 0 where
  pub is : IsOrder es order
  pub inside : number < length es
  pub named : name_at es number ≡ name
  pub last_named : name_at es (length es - 1) ≡ last_name
  pub rank_inside : rank < length order
  pub last_inside : last < length order
  pub at_rank : get_or (map.keys (map_of es)) rank [] ≡ name
  pub at_last : get_or (map.keys (map_of es)) last [] ≡ last_name

-- the entry at a place is held
pub entry_held : (es : Listed) (m : Entries) (k : ℕ) (name : List ℕ) (e : ChunkEntry) → map_of es ≡ m → slice_get es k ≡ Some (name, e) → map.contains_key m name ≡ true
entry_held es m k name e view at =
    let inside = slice_get_within es k (name, e) at in
    let names = each (λ (x : List ℕ × ChunkEntry). x.0) es in
    ap (λ (n : Entries). map.contains_key n name) (sym view)
    ∙ ap is_some (map.get-from_entries nat_list_cmp_total es name)
    ∙ is_some-find bytes_cmp name es
    ∙ listed_at name names k (omega (arith, inside, length-map es (λ (x : List ℕ × ChunkEntry). x.0))) (each_at (λ (x : List ℕ × ChunkEntry). x.0) es k ([], new_entry 0 0) [] inside ∙ ap (λ (x : List ℕ × ChunkEntry). x.0) (get_or_from_slice_get es k (name, e) ([], new_entry 0 0) at))

pub leaves_known : (es : Listed) (order : List ℕ) (m : Entries) (number rank last : ℕ) (name last_name : List ℕ) → map_of es ≡ m → IsOrder es order → number < length es → name_at es number ≡ name → name_at es (length es - 1) ≡ last_name
    → IsRank (map.keys m) name rank → IsRank (map.keys m) last_name last → map.contains_key m name ≡ true → map.contains_key m last_name ≡ true → Leaves es order number rank last name last_name
leaves_known es order m number rank last name last_name view is inside named last_named ranked last_ranked held last_held =
    let here = rank_found m name rank ranked held in
    let there = rank_found m last_name last last_ranked last_held in
    let many : length order ≡ length (map.keys m) = sym (length-map order (name_at es)) ∙ ap length is.names ∙ ap (λ (n : Entries). length (map.keys n)) view in
    record {
      is = is;
      inside = inside;
      named = named;
      last_named = last_named;
      rank_inside = omega (arith, here.0, many);
      last_inside = omega (arith, there.0, many);
      at_rank = ap (λ (n : Entries). get_or (map.keys n) rank []) view ∙ here.1;
      at_last = ap (λ (n : Entries). get_or (map.keys n) last []) view ∙ there.1;
    }

module _ (es : Listed) (order : List ℕ) (number rank last : ℕ) (name last_name : List ℕ) (p : List ℕ × ChunkEntry) (known : Leaves es order number rank last name last_name) where
  many : length (map.keys (map_of es)) ≡ length order
  many = ap length (sym known.is.names) ∙ length-map order (name_at es)

  -- the name at a place, by its number
  at_place : (j : ℕ) → j < length order → get_or (map.keys (map_of es)) j [] ≡ name_at es (get_or order j 0)
  at_place j inside = ap (λ (l : List (List ℕ)). get_or l j []) (sym known.is.names) ∙ each_at (name_at es) order j 0 [] inside

  count : length (swap_remove es number p) ≡ length es - 1
  count = length-take-le (length es - 1) (set es number (get_or es (length es - 1) p)) (omega (arith, length-set es number (get_or es (length es - 1) p)))

  -- another entry but the last keeps its number
  other_name : (k : ℕ) → k < length es - 1 → k ≢ number → name_at (swap_remove es number p) k ≡ name_at es k
  other_name k below apart =
      ap (λ (x : List ℕ × ChunkEntry). x.0)
      (get_or-take (length es - 1) (set es number (get_or es (length es - 1) p)) k ([], new_entry 0 0) below ∙ get_or-set_other es number k (get_or es (length es - 1) p) ([], new_entry 0 0) apart)

  moved_name : number < length es - 1 → name_at (swap_remove es number p) number ≡ name_at es (length es - 1)
  moved_name below =
      ap (λ (x : List ℕ × ChunkEntry). x.0)
      (get_or-take (length es - 1) (set es number (get_or es (length es - 1) p)) number ([], new_entry 0 0) below
      ∙ get_or-set_same es number (get_or es (length es - 1) p) ([], new_entry 0 0) known.inside
      ∙ get_or_default es (length es - 1) p ([], new_entry 0 0) (omega (arith, known.inside)))

  same_place : (i j : ℕ) → i < length order → j < length order → get_or (map.keys (map_of es)) i [] ≡ get_or (map.keys (map_of es)) j [] → i ≡ j
  same_place i j here there same = one_place (map_of es) name i j (omega (arith, here, many)) (omega (arith, there, many)) same

  abbrev Fits : ℕ → ℕ → Type 0
  Fits j k = (k < length es - 1) × (name_at (swap_remove es number p) k ≡ get_or (map.keys (map_of es)) j [])

  -- the number at each other place fits
  moved : (j : ℕ) → j < length order → j ≢ rank → Fits j (get_or (set order last number) j 0)
  moved j inside apart = ⊎_elim
      (λ (here : j ≡ last).
      let ends : number ≢ length es - 1 = λ at_end. apart (same_place j rank inside known.rank_inside
      (ap (λ (k : ℕ). get_or (map.keys (map_of es)) k []) here ∙ known.at_last ∙ sym known.last_named ∙ ap (name_at es) (sym at_end) ∙ known.named ∙ sym known.at_rank)) in
      let below : number < length es - 1 = omega (arith, known.inside, ends) in
      let is : get_or (set order last number) j 0 ≡ number = ap (λ (k : ℕ). get_or (set order last number) k 0) here ∙ get_or-set_same order last number 0 known.last_inside in
      subst (Fits j) (sym is) (below, moved_name below ∙ known.last_named ∙ sym known.at_last ∙ ap (λ (k : ℕ). get_or (map.keys (map_of es)) k []) (sym here)))
      (λ (there : j ≢ last).
      let k = get_or order j 0 in
      let is : get_or (set order last number) j 0 ≡ k = get_or-set_other order last j number 0 there in
      let some : k < length es = All-get_or (λ n. n < length es) order j 0 inside known.is.within in
      let not_end : k ≢ length es - 1 = λ at_end. there (same_place j last inside known.last_inside (at_place j inside ∙ ap (name_at es) at_end ∙ known.last_named ∙ sym known.at_last)) in
      let not_it : k ≢ number = λ it. apart (same_place j rank inside known.rank_inside (at_place j inside ∙ ap (name_at es) it ∙ known.named ∙ sym known.at_rank)) in
      let below : k < length es - 1 = omega (arith, some, not_end) in
      subst (Fits j) (sym is) (below, other_name k below not_it ∙ sym (at_place j inside)))
      (cases_eq j last)

  length_put : length (set order last number) ≡ length order
  length_put = length-set order last number

  moved_within : (j : ℕ) → j < length (remove (set order last number) rank) → get_or (remove (set order last number) rank) j 0 < length (swap_remove es number p)
  moved_within j inside =
      let shorter = length-remove (set order last number) rank (omega (arith, known.rank_inside, length_put)) in
      let inside_all : rank < length (set order last number) = omega (arith, known.rank_inside, length_put) in
      ⊎_elim
      (λ (before : j < rank).
      omega (arith, count, get_or-remove_below (set order last number) rank 0 j before inside_all, (moved j (omega (arith, before, known.rank_inside)) (λ is. absurd (omega (arith, is, before)))).0))
      (λ (behind : rank ≤ j).
      omega (arith, count, get_or-remove_above (set order last number) rank 0 j behind inside_all, (moved (j + 1) (omega (arith, inside, shorter, length_put)) (λ is. absurd (omega (arith, is, behind)))).0))
      (cases_lt j rank)

  pub order_without : (map_after : Entries) → map.keys map_after ≡ remove (map.keys (map_of es)) rank → map_of (swap_remove es number p) ≡ map_after → IsOrder (swap_remove es number p) (remove (set order last number) rank)
  order_without map_after keys is_map = record {
    within = All-from_get_or (λ n. n < length (swap_remove es number p)) (remove (set order last number) rank) 0 moved_within;
    names =
        each_remove (name_at (swap_remove es number p)) (set order last number) rank
        ∙ remove_same (each (name_at (swap_remove es number p)) (set order last number)) (map.keys (map_of es)) rank
        (length-map (set order last number) (name_at (swap_remove es number p)) ∙ length_put ∙ sym many)
        (λ j inside apart.
        let here : j < length order = omega (arith, inside, length-map (set order last number) (name_at (swap_remove es number p)), length_put) in
        each_at (name_at (swap_remove es number p)) (set order last number) j 0 [] (omega (arith, here, length_put)) ∙ (moved j here apart).1)
        ∙ sym keys
        ∙ ap (λ (m : Entries). map.keys m) (sym is_map);
  }
