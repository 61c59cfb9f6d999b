use Rattle.std.proofs.Common.{Bool, ℕ, Option, Some, cond, sym, ◌∙◌, ap}
use Rattle.std.specs.Prelude.{unwrap_or, if◌then◌else◌}
use Rattle.std.specs.BTreeMap.{get as kept}
use Rattle.std.specs.Cmp.{eq_by_cmp_equiv}
use Rattle.std.specs.Cmp.Lexicographic.{nat_list_cmp_total, texts_ties}
use Rattle.std.specs.Str.{bytes_eq}
use Rattle.site_forms.specs.Volumes.{bytes_cmp}
use Rattle.seed_mover.proofs.putting.blocks.first_place.Goals as goal

pub returns-in-Ok-clause-kept : goal.returns-in-Ok-clause-kept
returns-in-Ok-clause-kept c = λ q.
    let name = c.args.name in
    let place = c.args.place in
    let old = c.args.places.now in
    c.in-Ok.ensures.updates.0 q
    ∙ ap (λ (b : Bool). cond b (Some place) (kept bytes_cmp old q)) (sym (texts_ties q name ∙ (eq_by_cmp_equiv nat_list_cmp_total).symm q name))
    ∙ ap (λ (o : Option ℕ). if bytes_eq q name then Some (unwrap_or o place) else kept bytes_cmp old q) c.in_default.ensures.value
