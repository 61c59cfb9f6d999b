use Rattle.std.proofs.Common.{◌∙◌, ◌≡◌, [], get_or, subst}
use Rattle.incidence.specs.Incidences.{IsIncidence}
use Rattle.incidence.proofs.Exact.{users_class}
use Rattle.incidence.proofs.incidence.Incidence.users.Goals as goal

pub returns-clause-some : goal.returns-clause-some
returns-clause-some c =
    let is : IsIncidence c.args.self.now = subst IsIncidence c.self.view_is c.self.invariant in
    let users : c.list.result.now ≡ get_or c.args.self.now.users c.args.chunk [] = c.list.ensures ∙ (λ i. get_or (c.self.view_is i).users c.args.chunk []) in
    rw users (users_class c.args.self.now c.args.chunk is c.requires).used

pub returns-clause-rising : goal.returns-clause-rising
returns-clause-rising c =
    let is : IsIncidence c.args.self.now = subst IsIncidence c.self.view_is c.self.invariant in
    let users : c.list.result.now ≡ get_or c.args.self.now.users c.args.chunk [] = c.list.ensures ∙ (λ i. get_or (c.self.view_is i).users c.args.chunk []) in
    rw users (users_class c.args.self.now c.args.chunk is c.requires).rising

pub returns-clause-below : goal.returns-clause-below
returns-clause-below c =
    let is : IsIncidence c.args.self.now = subst IsIncidence c.self.view_is c.self.invariant in
    let users : c.list.result.now ≡ get_or c.args.self.now.users c.args.chunk [] = c.list.ensures ∙ (λ i. get_or (c.self.view_is i).users c.args.chunk []) in
    rw users (users_class c.args.self.now c.args.chunk is c.requires).below
