-- Appends that may be made in memory: what they do to the state that a site stands for.
use Rattle.std.proofs.Common.{◌≡◌, inl, inr, Option, Some, None, refl, sym, ◌∙◌, ap, subst}
use Rattle.std.specs.Prelude.{IsSome, unwrap_or}
use Rattle.std.specs.Option.{option_map}
use Rattle.volume_disk.specs.Disk.{Disk}
use Rattle.site_forms.specs.declared.phase.Phase.{Phase}
use Rattle.site_forms.specs.declared.phase.Phase.TheVariants.{Idle}
use Rattle.site_forms.specs.JournalRecords.{JournalRecord}
use Rattle.site_forms.specs.Phases.{phase_after}
use Rattle.site_forms.specs.Views.{State}
use Rattle.site_forms.specs.VolumeRecords.{VolumeRecord}
use Rattle.site_forms.specs.Volumes.{Shape, shape_after}
use Rattle.site_core.specs.declared.cursor.Cursor.{Cursor}
use Rattle.site_core.specs.Cursors.{IsCursorOf}
use Rattle.site_core.specs.Events.{Append, Shapes, IsSpelled, IsTurn, MayAppendTo, after, happens, happens_to, shapes_of}
use Rattle.site_core.specs.Events.Append.{ToA, ToB, ToJournal}
use Rattle.site_core.specs.Events.Event.{Appends}
use Rattle.site_core.specs.Lasting.{IsKept}
use Rattle.site_core.proofs.Acting.{next_acted}
use Rattle.site_core.proofs.Cursors.{cursor_stays}
use Rattle.site_core.proofs.Folding.{shapes_step}
use Rattle.site_core.proofs.Turning.{mapped, may_keep}
use Rattle.site_runs.specs.SiteValues.{SiteStands, SiteValue, shapes_in}
use Rattle.site_runs.proofs.Settled.{shapes_same}

some_map : {X Y : Type 0} (f : X → Y) (o : Option X) (y : Y) (none : X) → option_map f o ≡ Some y → o ≡ Some (unwrap_or o none)
some_map f None y none is = let no : ⊥ = cc in absurd no
some_map f (Some x) y none is = refl

-- an append that folds in memory folds onto the state
pub folds_told : (s : State) (x : Append) (next : Shapes) → happens_to (shapes_of s) x ≡ Some next → happens s x ≡ Some (after s (Appends x))
folds_told s x next is = some_map shapes_of (happens s x) next s (sym (shapes_step s x) ∙ is)

pub folds_state : (v : SiteValue) (d : Disk) (s : State) (x : Append) (next : Shapes) → SiteStands v d s → happens_to (shapes_in v) x ≡ Some next → happens s x ≡ Some (after s (Appends x))
folds_state v d s x next stands is = folds_told s x next (ap (λ t. happens_to t x) (sym (shapes_same v s d stands)) ∙ is)

-- its record can be spelled
mark_spelled : (x : Append) → IsTurn x → IsSpelled x
mark_spelled (ToA r) (inl is) = let no : ⊥ = cc in absurd no
mark_spelled (ToA r) (inr is) = let no : ⊥ = cc in absurd no
mark_spelled (ToB r) (inl is) = let no : ⊥ = cc in absurd no
mark_spelled (ToB r) (inr is) = let no : ⊥ = cc in absurd no
mark_spelled (ToJournal r) turn = tt

pub may_spelled : (t : Shapes) (x : Append) → IsKept t → MayAppendTo t x → IsSpelled x
may_spelled t x kept (inl next) = subst IsSpelled (sym next.appends) (next_acted t.a t.b t.phase next.bytes next.action kept next.is next.copies).spelled
may_spelled t x kept (inr (inl idle)) = idle.spelled
may_spelled t x kept (inr (inr mark)) = mark_spelled x mark.turn

-- WHAT IS HELD WITH IT

-- the volume that it goes to folds it
pub shape_folds : (shape : Shape) (r : VolumeRecord) (next : Shapes) (f : Shape → Shapes) → option_map f (shape_after shape r) ≡ Some next → IsSome (shape_after shape r)
shape_folds shape r next f is = let its = mapped f (shape_after shape r) next is in subst (λ (o : Option Shape). IsSome o) (sym its.1) refl

pub phase_folds : (phase : Phase) (r : JournalRecord) (next : Shapes) (f : Phase → Shapes) → option_map f (phase_after phase r) ≡ Some next → IsSome (phase_after phase r)
phase_folds phase r next f is = let its = mapped f (phase_after phase r) next is in subst (λ (o : Option Phase). IsSome o) (sym its.1) refl

some_one : {X : Type 0} (o : Option X) (x y : X) → o ≡ Some x → o ≡ Some y → x ≡ y
some_one o x y p q = cc

-- a site in memory stays one
pub kept_with : (t next : Shapes) (x : Append) → IsKept t → MayAppendTo t x → happens_to t x ≡ Some next → IsKept next
kept_with t next x kept may is = let its = may_keep t x kept may in subst IsKept (some_one (happens_to t x) its.next next its.folds is) its.kept

-- the search goes on over records of a volume
idle_cursor : (a b : Shape) (phase : Phase) (c : Cursor) → phase ≡ Idle → IsCursorOf a b phase c
idle_cursor a b phase c is = subst (λ (p : Phase). IsCursorOf a b p c) (sym is) tt

no_turn_a : (r : VolumeRecord) → IsTurn (ToA r) → ⊥
no_turn_a r (inl is) = cc
no_turn_a r (inr is) = cc

no_turn_b : (r : VolumeRecord) → IsTurn (ToB r) → ⊥
no_turn_b r (inl is) = cc
no_turn_b r (inr is) = cc

phase_a : (t next : Shapes) (r : VolumeRecord) → happens_to t (ToA r) ≡ Some next → next.phase ≡ t.phase
phase_a t next r is = let its = mapped (λ (x : Shape). record t { a = x }) (shape_after t.a r) next is in ap (λ (u : Shapes). u.phase) (sym its.2)

phase_b : (t next : Shapes) (r : VolumeRecord) → happens_to t (ToB r) ≡ Some next → next.phase ≡ t.phase
phase_b t next r is = let its = mapped (λ (x : Shape). record t { b = x }) (shape_after t.b r) next is in ap (λ (u : Shapes). u.phase) (sym its.2)

pub cursor_a : (t next : Shapes) (c : Cursor) (r : VolumeRecord) → MayAppendTo t (ToA r) → happens_to t (ToA r) ≡ Some next → IsCursorOf t.a t.b t.phase c → IsCursorOf next.a next.b next.phase c
cursor_a t next c r (inl its) is right = cursor_stays t next c its.action its.bytes its.is (ap (happens_to t) (sym its.appends) ∙ is) right
cursor_a t next c r (inr (inl its)) is right = idle_cursor next.a next.b next.phase c (phase_a t next r is ∙ its.idle)
cursor_a t next c r (inr (inr its)) is right = absurd (no_turn_a r its.turn)

pub cursor_b : (t next : Shapes) (c : Cursor) (r : VolumeRecord) → MayAppendTo t (ToB r) → happens_to t (ToB r) ≡ Some next → IsCursorOf t.a t.b t.phase c → IsCursorOf next.a next.b next.phase c
cursor_b t next c r (inl its) is right = cursor_stays t next c its.action its.bytes its.is (ap (happens_to t) (sym its.appends) ∙ is) right
cursor_b t next c r (inr (inl its)) is right = idle_cursor next.a next.b next.phase c (phase_b t next r is ∙ its.idle)
cursor_b t next c r (inr (inr its)) is right = absurd (no_turn_b r its.turn)

-- the volume, or the journal, folds an append that may be made
pub may_folds_a : (t : Shapes) (r : VolumeRecord) → IsKept t → MayAppendTo t (ToA r) → IsSome (shape_after t.a r)
may_folds_a t r kept may = let its = may_keep t (ToA r) kept may in shape_folds t.a r its.next (λ (x : Shape). record t { a = x }) its.folds

pub may_folds_b : (t : Shapes) (r : VolumeRecord) → IsKept t → MayAppendTo t (ToB r) → IsSome (shape_after t.b r)
may_folds_b t r kept may = let its = may_keep t (ToB r) kept may in shape_folds t.b r its.next (λ (x : Shape). record t { b = x }) its.folds

pub may_folds_journal : (t : Shapes) (r : JournalRecord) → IsKept t → MayAppendTo t (ToJournal r) → IsSome (phase_after t.phase r)
may_folds_journal t r kept may = let its = may_keep t (ToJournal r) kept may in phase_folds t.phase r its.next (λ (x : Phase). record t { phase = x }) its.folds
