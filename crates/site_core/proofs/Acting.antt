-- What each action of a migration keeps: the fit of the volumes, and the origin.
use Rattle.std.proofs.Common.{◌≡◌, inl, inr, ⊎_elim, ℕ, ◌+◌, List, [], length, get_or, Bool, true, false, Option, Some, None, refl, sym, ◌∙◌, ap, subst, arith}
use Rattle.std.specs.Prelude.{is_some, not, unwrap_or, if◌then◌else◌}
use Rattle.std.specs.Option.{option_map}
use Rattle.std.specs.FinMap as map
use Rattle.std.proofs.lemmas.Bool.{true≢false, and_from, and_right, not_from_false, false_from_ne_true}
use Rattle.site_forms.specs.declared.phase.Phase.{Phase}
use Rattle.site_forms.specs.declared.phase.Phase.TheVariants.{Idle, Moving, Moved, Undoing}
use Rattle.site_forms.specs.JournalRecords.JournalRecord.{MovedRecord, UndoneRecord}
use Rattle.site_forms.specs.Names.{is_listed, is_name_list}
use Rattle.site_forms.specs.Sites.{HoldsFile, HoldsChunk, IsNamed, IsTidy, IsUnderway, FitsMoving}
use Rattle.site_forms.specs.Views.{joined_files}
use Rattle.site_forms.specs.VolumeRecords.{IsChunk, IsChunkName}
use Rattle.site_forms.specs.VolumeRecords.VolumeRecord.{ChunkRecord, FileRecord, DropFileRecord, DropChunkRecord}
use Rattle.site_forms.specs.Volumes.{Files, Shape, used, with_chunk, with_file, without_file, without_chunk}
use Rattle.volume_index.specs.HoldingValues.{KeepsShape}
use Rattle.volume_index.proofs.Alls.{held_value}
use Rattle.volume_index.proofs.Shapes.{keeps_with_chunk, keeps_with_file}
use Rattle.site_core.specs.Events.{Append, Shapes, happens_to, append_with, CopiesChunk, IsSpelled}
use Rattle.site_core.specs.Events.Append.{ToA, ToB, ToJournal}
use Rattle.site_core.specs.Lasting.{IsKept}
use Rattle.site_core.specs.Steps.{list_of, next_step, forth, back, remaining}
use Rattle.site_core.specs.declared.step.Step.{Step}
use Rattle.site_core.specs.declared.step.Step.TheVariants.{Copy, Add, Drop, DropChunk, Finish}
use Rattle.site_core.specs.declared.action.Action.{Action}
use Rattle.site_core.specs.Steps.{next_of}
use Rattle.site_core.proofs.Keeping.{all_listed, distinct_of, chunk_held, chunk_named, file_named, tidy_from, keeps_less, keeps_unused, may_join, may_folds}
use Rattle.site_core.proofs.Maps.{either, user_of, used_by}
use Rattle.site_core.proofs.NextSteps.{Tells, tells, Copies, Adds, Drops, DropsChunk, Ends, all_copied}
use Rattle.site_core.proofs.Remaining.{copy_left, add_left, drop_left, drop_chunk_left, end_left}
use Rattle.site_core.proofs.Ways.{Way, way_from, way_to, among_a, same_origin, chunk_to_b, chunk_to_a, chunk_from_b, chunk_from_a, file_to_b, file_to_a, file_from_a, file_from_b}

-- an append folds, keeps the fit and the origin, and leaves one action less
pub record Acted (t : Shapes) (x : Append) : Type 0 where
  pub next : Shapes
  pub folds : happens_to t x ≡ Some next
  pub kept : IsKept next
  pub origin : joined_files next.a.files next.b.files ≡ joined_files t.a.files t.b.files
  pub left : remaining next.a next.b next.phase + 1 ≡ remaining t.a t.b t.phase
  pub spelled : IsSpelled x

same_list : (o : Option (List (List ℕ))) (list : List (List ℕ)) → o ≡ Some list → list ≡ unwrap_or o []
same_list o list is = sym (ap (λ (p : Option (List (List ℕ))). unwrap_or p []) is)

one_value : {X : Type 0} (o : Option X) (x y : X) → o ≡ Some x → o ≡ Some y → x ≡ y
one_value o x y p q = cc

both_same : (x y : Bool) → (x ≡ true → y ≡ true) → (y ≡ true → x ≡ true) → x ≡ y
both_same true y to from = sym (to refl)
both_same false true to from = from refl
both_same false false to from = refl

-- FROM A TO B

module _ (a b : Shape) (names : List (List ℕ)) (keeps_a : KeepsShape a) (keeps_b : KeepsShape b) (lawful : is_name_list names ≡ true) (fit : FitsMoving a b names) (bytes : List ℕ) where
  abbrev going : Shapes
  going = record { a = a; b = b; phase = Moving names }

  abbrev o : Files
  o = joined_files a.files b.files

  way : Way o names a b
  way = way_from a b names fit.underway keeps_a.most keeps_b.most

  -- while B lacks a name, A lacks none and is tidy
  still_in_a : (lacking : List ℕ) → IsNamed names lacking → map.contains_key b.files lacking ≡ false → (name : List ℕ) → IsNamed names name → HoldsFile a name
  still_in_a lacking listed lacks name named = ⊎_elim (λ held. held) (λ all. absurd (true≢false (sym (all lacking listed) ∙ lacks))) (fit.copied_first name named)

  still_tidy : (lacking : List ℕ) → IsNamed names lacking → map.contains_key b.files lacking ≡ false → IsTidy a
  still_tidy lacking listed lacks = ⊎_elim (λ held. absurd (true≢false (sym held ∙ lacks))) (λ tidy. tidy) (fit.tidied_last lacking listed)

  forth_copy : (chunk : List ℕ) → IsChunk bytes → Copies a b names chunk → Acted going (ToB (ChunkRecord chunk bytes))
  forth_copy chunk is_chunk facts =
      let len = length bytes in
      let after = with_chunk b chunk len in
      let held = chunk_held a keeps_a facts.name chunk facts.list facts.found facts.uses in
      let keeps = keeps_with_chunk b chunk len keeps_b (chunk_named a keeps_a chunk held) is_chunk.some is_chunk.most in
      let next = chunk_to_b o names a b way chunk len facts.name facts.listed (facts.list, among_a o names a b way facts.name facts.list facts.found, facts.uses) in
      record {
        next = record { a = a; b = after; phase = Moving names };
        folds = ap (λ (c : Bool). option_map (λ (x : Shape). record going { b = x }) (if c then None else Some after)) facts.new;
        kept = record {
          a = keeps_a;
          b = keeps;
          names = lawful;
          fits = record {
            underway = way_to o names a after next keeps_a.most keeps.most;
            copied_first = λ name named. inl (still_in_a facts.name facts.listed facts.lacking name named);
            tidied_last = λ name named. inr (still_tidy facts.name facts.listed facts.lacking);
          };
        };
        origin = same_origin o names a after next;
        left = copy_left a b names chunk len facts;
        spelled = (chunk_named a keeps_a chunk held, is_chunk);
      }

  forth_add_list : (place : ℕ) (list : List (List ℕ)) → map.get a.files (get_or names place []) ≡ Some list → Adds a b names place → Acted going (ToB (FileRecord (get_or names place []) list))
  forth_add_list place list found facts =
      let name = get_or names place [] in
      let after = with_file b name list in
      let next = file_to_b o names a b way name list facts.listed (among_a o names a b way name list found) in
      let may = may_join b keeps_b o name list (file_named a keeps_a name (ap is_some found)) facts.lacking
      (λ q uses. all_copied a b names name q facts.copied facts.listed facts.lacking (subst (λ (l : List (List ℕ)). is_listed l q ≡ true) (same_list (map.get a.files name) list found) uses))
      (keeps_a.short name list found) next.among_b way.fit in
      let keeps = keeps_with_file b name list keeps_b may in
      record {
        next = record { a = a; b = after; phase = Moving names };
        folds = ap (λ (c : Bool). option_map (λ (x : Shape). record going { b = x }) (if c then Some after else None)) (may_folds b name list may);
        kept = record {
          a = keeps_a;
          b = keeps;
          names = lawful;
          fits = record {
            underway = way_to o names a after next keeps_a.most keeps.most;
            copied_first = λ n named. inl (still_in_a name facts.listed facts.lacking n named);
            tidied_last = λ n named. inr (still_tidy name facts.listed facts.lacking);
          };
        };
        origin = same_origin o names a after next;
        left = add_left a b names place list (distinct_of names lawful) facts;
        spelled = all_listed IsChunkName list (λ q uses. chunk_named a keeps_a q (chunk_held a keeps_a name q list found uses));
      }

  forth_add : (place : ℕ) → Adds a b names place → Acted going (ToB (FileRecord (get_or names place []) (list_of a (get_or names place []))))
  forth_add place facts =
      let name = get_or names place [] in
      let found = held_value a.files name (still_in_a name facts.listed facts.lacking name facts.listed) in
      subst (λ (l : List (List ℕ)). Acted going (ToB (FileRecord name l))) (same_list (map.get a.files name) found.0 found.1) (forth_add_list place found.0 found.1 facts)

  forth_drop : (place : ℕ) → Drops a b names place → Acted going (ToA (DropFileRecord (get_or names place [])))
  forth_drop place facts =
      let name = get_or names place [] in
      let after = without_file a name in
      let found = held_value b.files name (facts.arrived name facts.listed) in
      let next = file_from_a o names a b way name found.0 found.1 in
      let keeps = keeps_less a keeps_a name in
      record {
        next = record { a = after; b = b; phase = Moving names };
        folds = ap (λ (c : Bool). option_map (λ (x : Shape). record going { a = x }) (if c then Some after else None)) facts.held;
        kept = record {
          a = keeps;
          b = keeps_b;
          names = lawful;
          fits = record { underway = way_to o names after b next keeps.most keeps_b.most; copied_first = λ n named. inr facts.arrived; tidied_last = λ n named. inl (facts.arrived n named) };
        };
        origin = same_origin o names after b next;
        left = drop_left a b names place (distinct_of names lawful) facts;
        spelled = tt;
      }

  forth_drop_chunk : (chunk : List ℕ) → DropsChunk a b names chunk → Acted going (ToA (DropChunkRecord chunk))
  forth_drop_chunk chunk facts =
      let after = without_chunk a chunk in
      let next = chunk_from_a o names a b way chunk in
      let keeps = keeps_unused a keeps_a chunk facts.unused in
      record {
        next = record { a = after; b = b; phase = Moving names };
        folds = ap (λ (c : Bool). option_map (λ (x : Shape). record going { a = x }) (if c then Some after else None))
            (and_from (map.contains_key a.chunks chunk) (not (map.contains_key (used a.files) chunk)) facts.held (not_from_false (map.contains_key (used a.files) chunk) facts.unused));
        kept = record {
          a = keeps;
          b = keeps_b;
          names = lawful;
          fits = record { underway = way_to o names after b next keeps.most keeps_b.most; copied_first = λ n named. inr facts.arrived; tidied_last = λ n named. inl (facts.arrived n named) };
        };
        origin = same_origin o names after b next;
        left = drop_chunk_left a b names chunk facts;
        spelled = chunk_named a keeps_a chunk facts.held;
      }

  -- each chunk of B is used by a file of B, once B holds all names
  used_in_b : ((name : List ℕ) → IsNamed names name → HoldsFile b name) → (chunk : List ℕ) → HoldsChunk b chunk → map.contains_key (used b.files) chunk ≡ true
  used_in_b arrived chunk held =
      let user = way.copied chunk held in
      let found = held_value b.files user.0 (arrived user.0 user.1) in
      let same = one_value (map.get o user.0) user.2.0 found.0 user.2.1 (way.among_b user.0 found.0 found.1) in
      used_by b.files user.0 found.0 chunk found.1 (subst (λ (l : List (List ℕ)). is_listed l chunk ≡ true) same user.2.2)

  forth_end : Ends a b names → Acted going (ToJournal MovedRecord)
  forth_end facts = record {
    next = record { a = a; b = b; phase = Moved names };
    folds = refl;
    kept = record {
      a = keeps_a;
      b = keeps_b;
      names = lawful;
      fits = record {
        left = facts.left;
        arrived = λ name. both_same (map.contains_key b.files name) (is_listed names name) (way.planned name) (facts.arrived name);
        tidy_a = tidy_from a keeps_a facts.tidy;
        tidy_b = tidy_from b keeps_b (used_in_b facts.arrived);
        limits = fit.underway.limits;
      };
    };
    origin = refl;
    left = let one = end_left a b names facts in omega (arith, one);
    spelled = tt;
  }

  forth_acted : (step : Step) → Tells a b names step → CopiesChunk (forth step) bytes → Acted going (append_with a b (Moving names) bytes (forth step))
  forth_acted (Copy chunk) facts is_chunk = forth_copy chunk is_chunk facts
  forth_acted (Add place) facts _ = forth_add place facts
  forth_acted (Drop place) facts _ = forth_drop place facts
  forth_acted (DropChunk chunk) facts _ = forth_drop_chunk chunk facts
  forth_acted Finish facts _ = forth_end facts

  pub acts_forth : CopiesChunk (forth (next_step a b names)) bytes → Acted going (append_with a b (Moving names) bytes (forth (next_step a b names)))
  acts_forth copies = forth_acted (next_step a b names) (tells a b names) copies

-- AND BACK

module _ (a b : Shape) (names : List (List ℕ)) (keeps_a : KeepsShape a) (keeps_b : KeepsShape b) (lawful : is_name_list names ≡ true) (fit : IsUnderway a b names) (bytes : List ℕ) where
  abbrev coming : Shapes
  coming = record { a = a; b = b; phase = Undoing names }

  abbrev home : Files
  home = joined_files a.files b.files

  back_way : Way home names a b
  back_way = way_from a b names fit keeps_a.most keeps_b.most

  back_copy : (chunk : List ℕ) → IsChunk bytes → Copies b a names chunk → Acted coming (ToA (ChunkRecord chunk bytes))
  back_copy chunk is_chunk facts =
      let len = length bytes in
      let after = with_chunk a chunk len in
      let held = chunk_held b keeps_b facts.name chunk facts.list facts.found facts.uses in
      let keeps = keeps_with_chunk a chunk len keeps_a (chunk_named b keeps_b chunk held) is_chunk.some is_chunk.most in
      let next = chunk_to_a home names a b back_way chunk len facts.name (facts.list, back_way.among_b facts.name facts.list facts.found, facts.uses) in
      record {
        next = record { a = after; b = b; phase = Undoing names };
        folds = ap (λ (c : Bool). option_map (λ (x : Shape). record coming { a = x }) (if c then None else Some after)) facts.new;
        kept = record { a = keeps; b = keeps_b; names = lawful; fits = way_to home names after b next keeps.most keeps_b.most };
        origin = same_origin home names after b next;
        left = copy_left b a names chunk len facts;
        spelled = (chunk_named b keeps_b chunk held, is_chunk);
      }

  back_add_list : (place : ℕ) (list : List (List ℕ)) → map.get b.files (get_or names place []) ≡ Some list → Adds b a names place → Acted coming (ToA (FileRecord (get_or names place []) list))
  back_add_list place list found facts =
      let name = get_or names place [] in
      let after = with_file a name list in
      let next = file_to_a home names a b back_way name list (back_way.among_b name list found) in
      let may = may_join a keeps_a home name list (file_named b keeps_b name (ap is_some found)) facts.lacking
      (λ q uses. all_copied b a names name q facts.copied facts.listed facts.lacking (subst (λ (l : List (List ℕ)). is_listed l q ≡ true) (same_list (map.get b.files name) list found) uses))
      (keeps_b.short name list found) (among_a home names after b next) back_way.fit in
      let keeps = keeps_with_file a name list keeps_a may in
      record {
        next = record { a = after; b = b; phase = Undoing names };
        folds = ap (λ (c : Bool). option_map (λ (x : Shape). record coming { a = x }) (if c then Some after else None)) (may_folds a name list may);
        kept = record { a = keeps; b = keeps_b; names = lawful; fits = way_to home names after b next keeps.most keeps_b.most };
        origin = same_origin home names after b next;
        left = add_left b a names place list (distinct_of names lawful) facts;
        spelled = all_listed IsChunkName list (λ q uses. chunk_named b keeps_b q (chunk_held b keeps_b name q list found uses));
      }

  back_add : (place : ℕ) → Adds b a names place → Acted coming (ToA (FileRecord (get_or names place []) (list_of b (get_or names place []))))
  back_add place facts =
      let name = get_or names place [] in
      let held : HoldsFile b name = ⊎_elim (λ in_a. absurd (true≢false (sym in_a ∙ facts.lacking))) (λ in_b. in_b) (fit.somewhere name facts.listed) in
      let found = held_value b.files name held in
      subst (λ (l : List (List ℕ)). Acted coming (ToA (FileRecord name l))) (same_list (map.get b.files name) found.0 found.1) (back_add_list place found.0 found.1 facts)

  back_drop : (place : ℕ) → Drops b a names place → Acted coming (ToB (DropFileRecord (get_or names place [])))
  back_drop place facts =
      let name = get_or names place [] in
      let after = without_file b name in
      let found = held_value a.files name (facts.arrived name facts.listed) in
      let next = file_from_b home names a b back_way name found.0 found.1 in
      let keeps = keeps_less b keeps_b name in
      record {
        next = record { a = a; b = after; phase = Undoing names };
        folds = ap (λ (c : Bool). option_map (λ (x : Shape). record coming { b = x }) (if c then Some after else None)) facts.held;
        kept = record { a = keeps_a; b = keeps; names = lawful; fits = way_to home names a after next keeps_a.most keeps.most };
        origin = same_origin home names a after next;
        left = drop_left b a names place (distinct_of names lawful) facts;
        spelled = tt;
      }

  back_drop_chunk : (chunk : List ℕ) → DropsChunk b a names chunk → Acted coming (ToB (DropChunkRecord chunk))
  back_drop_chunk chunk facts =
      let after = without_chunk b chunk in
      let next = chunk_from_b home names a b back_way chunk in
      let keeps = keeps_unused b keeps_b chunk facts.unused in
      record {
        next = record { a = a; b = after; phase = Undoing names };
        folds = ap (λ (c : Bool). option_map (λ (x : Shape). record coming { b = x }) (if c then Some after else None))
            (and_from (map.contains_key b.chunks chunk) (not (map.contains_key (used b.files) chunk)) facts.held (not_from_false (map.contains_key (used b.files) chunk) facts.unused));
        kept = record { a = keeps_a; b = keeps; names = lawful; fits = way_to home names a after next keeps_a.most keeps.most };
        origin = same_origin home names a after next;
        left = drop_chunk_left b a names chunk facts;
        spelled = chunk_named b keeps_b chunk facts.held;
      }

  -- at the end B holds no file, and no chunk
  pub no_file : Ends b a names → (name : List ℕ) → map.contains_key b.files name ≡ false
  no_file facts name = false_from_ne_true (map.contains_key b.files name) (λ held. true≢false (sym held ∙ facts.left name (fit.planned name held)))

  pub no_chunk : Ends b a names → (chunk : List ℕ) → map.contains_key b.chunks chunk ≡ false
  no_chunk facts chunk = false_from_ne_true (map.contains_key b.chunks chunk) (λ held.
      let user = user_of b.files chunk (facts.tidy chunk held) in
      true≢false (sym (ap is_some user.1.1) ∙ no_file facts user.0))

  first_none : {X : Type 0} (x y : Option X) → is_some y ≡ false → either x y ≡ x
  first_none None None none = refl
  first_none None (Some v) none = absurd (true≢false none)
  first_none (Some v) y none = refl

  -- and A holds the origin, with no other chunk
  pub all_home : Ends b a names → (name : List ℕ) → map.get home name ≡ map.get a.files name
  all_home facts name = back_way.joined name ∙ first_none (map.get a.files name) (map.get b.files name) (no_file facts name)

  pub tidy_home : Ends b a names → IsTidy a
  tidy_home facts = tidy_from a keeps_a (λ chunk held.
      let user = back_way.needed chunk held in
      used_by a.files user.0 user.1.0 chunk (sym (all_home facts user.0) ∙ user.1.1) user.1.2)

  back_end : Ends b a names → Acted coming (ToJournal UndoneRecord)
  back_end facts = record {
    next = record { a = a; b = b; phase = Idle };
    folds = refl;
    kept = record { a = keeps_a; b = keeps_b; names = refl; fits = λ name. and_right (map.contains_key a.files name) (map.contains_key b.files name) (no_file facts name) };
    origin = refl;
    left = let one = end_left b a names facts in omega (arith, one);
    spelled = tt;
  }

  back_acted : (step : Step) → Tells b a names step → CopiesChunk (back step) bytes → Acted coming (append_with a b (Undoing names) bytes (back step))
  back_acted (Copy chunk) facts is_chunk = back_copy chunk is_chunk facts
  back_acted (Add place) facts _ = back_add place facts
  back_acted (Drop place) facts _ = back_drop place facts
  back_acted (DropChunk chunk) facts _ = back_drop_chunk chunk facts
  back_acted Finish facts _ = back_end facts

  pub acts_back : CopiesChunk (back (next_step b a names)) bytes → Acted coming (append_with a b (Undoing names) bytes (back (next_step b a names)))
  acts_back copies = back_acted (next_step b a names) (tells b a names) copies

-- THE NEXT ACTION OF EITHER

same_value : {X : Type 0} (x y : X) → Some x ≡ Some y → x ≡ y
same_value x y is = cc

no_value : {X : Type 0} (x : X) → None ≡ Some x → ⊥
no_value x is = cc

pub next_acted : (a b : Shape) (phase : Phase) (bytes : List ℕ) (action : Action) → IsKept (record { a = a; b = b; phase = phase }) → next_of a b phase ≡ Some action → CopiesChunk action bytes
    → Acted (record { a = a; b = b; phase = phase }) (append_with a b phase bytes action)
next_acted a b Idle bytes action kept is copies = absurd (no_value action is)
next_acted a b (Moving names) bytes action kept is copies =
    let same = same_value (forth (next_step a b names)) action is in
    subst (λ (x : Action). CopiesChunk x bytes → Acted (record { a = a; b = b; phase = Moving names }) (append_with a b (Moving names) bytes x)) same
    (acts_forth a b names kept.a kept.b kept.names kept.fits bytes) copies
next_acted a b (Moved names) bytes action kept is copies = absurd (no_value action is)
next_acted a b (Undoing names) bytes action kept is copies =
    let same = same_value (back (next_step b a names)) action is in
    subst (λ (x : Action). CopiesChunk x bytes → Acted (record { a = a; b = b; phase = Undoing names }) (append_with a b (Undoing names) bytes x)) same
    (acts_back a b names kept.a kept.b kept.names kept.fits bytes) copies
