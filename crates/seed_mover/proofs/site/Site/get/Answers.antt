use Rattle.std.proofs.Common.{sym, subst}
use Rattle.std.specs.Prelude.{Err, Ok}
use Rattle.std.specs.FinMap as map
use Rattle.fault_count.specs.Counts.{HandsOn}
use Rattle.site_forms.specs.Views.{State}
use Rattle.chunk_volume.specs.declared.errors.VolError.TheVariants.{RackFault as VolumeFault}
use Rattle.chunk_volume.specs.ReadingVolumes.{FindsFile, ReadsFile}
use Rattle.chunk_volume.specs.Standing.{VolumeStands}
use Rattle.chunk_volume.specs.VolumeValues.{VolumeValue}
use Rattle.seed_mover.specs.declared.errors.SiteError.{SiteError}
use Rattle.seed_mover.specs.declared.errors.SiteError.TheVariants.{RackFault}
use Rattle.seed_mover.specs.Getting.{Gets, GetsFrom, holder_in}
use Rattle.site_runs.specs.SiteValues.{SiteStands}
use Rattle.seed_mover.proofs.Got.{gets_refused, holder_place, holder_stands, view_found, view_refused, whole_view}
use Rattle.seed_mover.proofs.Noted.{cause_ok, volume_told}
use Rattle.seed_mover.proofs.site.Site.get.Goals as goal

pub returns-in-Ok-clause-cause : goal.returns-in-Ok-clause-cause
returns-in-Ok-clause-cause g c = cause_ok c.in-Ok.bytes c.in-Ok.bytes VolumeFault (g.R.Rack.faults c.args.rack.now) (g.R.Rack.faults c.read_file.new.rack) c.in-Ok.ensures.cause

pub returns-in-Ok-clause-gets : goal.returns-in-Ok-clause-gets
returns-in-Ok-clause-gets g c = subst (λ (x : VolumeValue). ReadsFile x c.args.name.now (Ok c.in-Ok.bytes)) c.holder.ensures c.in-Ok.ensures.reads

pub returns-in-Ok-clause-view : goal.returns-in-Ok-clause-view
returns-in-Ok-clause-view g c = λ honest.
    let d = g.R.Rack.disk c.args.rack.now in
    let v = c.args.self.now in
    let name = c.args.name.now in
    let finds : (s : State) → SiteStands v d s → FindsFile (holder_in s name) name (Ok c.in-Ok.bytes) = λ s stands.
    let place = holder_place (map.contains_key s.a.files name) in
    c.in-Ok.ensures.found place (holder_in s name) honest (subst (λ (x : VolumeValue). VolumeStands place x d (holder_in s name)) (sym c.holder.ensures) (holder_stands v d s name stands)) in
    record { found = λ s stands. view_found v d s name stands c.in-Ok.bytes (finds s stands); whole = λ s stands site. tt }

pub returns-in-Err-clause-cause : goal.returns-in-Err-clause-cause
returns-in-Err-clause-cause g c =
    let before = g.R.Rack.faults c.args.rack.now in
    let now = g.R.Rack.faults c.read_file.new.rack in
    subst (λ (error : SiteError). HandsOn RackFault before now (Err error)) (sym c.from.ensures) (volume_told before now c.in-Err.error c.in-Err.ensures.cause)

pub returns-in-Err-clause-gets : goal.returns-in-Err-clause-gets
returns-in-Err-clause-gets g c =
    let v = c.args.self.now in
    let name = c.args.name.now in
    subst (λ (error : SiteError). Gets v name (Err error)) (sym c.from.ensures) (gets_refused v name c.in-Err.error (subst (λ (x : VolumeValue). ReadsFile x name (Err c.in-Err.error)) c.holder.ensures c.in-Err.ensures.reads))

pub returns-in-Err-clause-view : goal.returns-in-Err-clause-view
returns-in-Err-clause-view g c = λ honest.
    let d = g.R.Rack.disk c.args.rack.now in
    let v = c.args.self.now in
    let name = c.args.name.now in
    let reads = subst (λ (x : VolumeValue). ReadsFile x name (Err c.in-Err.error)) c.holder.ensures c.in-Err.ensures.reads in
    let finds : (s : State) → SiteStands v d s → FindsFile (holder_in s name) name (Err c.in-Err.error) = λ s stands.
    let place = holder_place (map.contains_key s.a.files name) in
    c.in-Err.ensures.found place (holder_in s name) honest (subst (λ (x : VolumeValue). VolumeStands place x d (holder_in s name)) (sym c.holder.ensures) (holder_stands v d s name stands)) in
    subst (λ (error : SiteError). GetsFrom d v name (Err error)) (sym c.from.ensures)
    (record { found = λ s stands. view_refused v d s name stands c.in-Err.error reads (finds s stands); whole = λ s stands site. whole_view s name c.in-Err.error site (finds s stands) })
