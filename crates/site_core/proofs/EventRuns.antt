-- Lists of events, in two parts, and the events of actions.
use Rattle.std.proofs.Common.{◌≡◌, inl, List, [], ◌∷◌, ◌++◌, refl}
use Rattle.site_forms.specs.declared.phase.Phase.TheVariants.{Idle}
use Rattle.site_forms.specs.Sites.{shape_of}
use Rattle.site_forms.specs.Views.{State}
use Rattle.site_core.specs.Events.{Append, Event, AreAllowed, after, after_all}
use Rattle.site_core.specs.Events.Event.{Appends}
use Rattle.site_core.specs.Lasting.{StaysOpen}
use Rattle.site_core.specs.Plans.{AreActions, events_of}
use Rattle.site_core.proofs.Values.{no_next}

pub all_joined : (s : State) (front rest : List Event) → after_all s (front ++ rest) ≡ after_all (after_all s front) rest
all_joined s [] rest = refl
all_joined s (e ∷ front) rest = all_joined (after s e) front rest

pub allowed_front : (s : State) (front rest : List Event) → AreAllowed s (front ++ rest) → AreAllowed s front × AreAllowed (after_all s front) rest
allowed_front s [] rest allowed = (tt, allowed)
allowed_front s (e ∷ front) rest allowed =
    let parts = allowed_front (after s e) front rest allowed.1 in
    ((allowed.0, parts.0), parts.1)

pub allowed_joined : (s : State) (front rest : List Event) → AreAllowed s front → AreAllowed (after_all s front) rest → AreAllowed s (front ++ rest)
allowed_joined s [] rest first second = second
allowed_joined s (e ∷ front) rest first second = (first.0, allowed_joined (after s e) front rest first.1 second)

-- next actions are allowed, and a migration is open whenever one comes
pub actions_allowed : (s : State) (plan : List Append) → AreActions s plan → AreAllowed s (events_of plan) × StaysOpen s (events_of plan)
actions_allowed s [] actions = (tt, tt)
actions_allowed s (x ∷ plan) actions =
    let rest = actions_allowed (after s (Appends x)) plan actions.1 in
    ((inl actions.0, rest.0), (λ (idle : s.phase ≡ Idle). no_next (shape_of s.a) (shape_of s.b) s.phase actions.0.action idle actions.0.is, rest.1))
