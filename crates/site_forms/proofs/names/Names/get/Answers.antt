use Rattle.std.proofs.Common.{sym, ◌∙◌, ap, subst, arith, ◌<◌, [], length, String, Global}
use Rattle.std.specs.Prelude.{string_bytes, map}
use Rattle.std.proofs.lemmas.List.{length-map, get_or-map}
use Rattle.std.proofs.lemmas.List.Elements.{All-get_or}
use Rattle.file_names.specs.FileNames.{IsFileName}
use Rattle.site_forms.proofs.names.Names.get.Goals as goal

pub returns-clause-lawful : goal.returns-clause-lawful
returns-clause-lawful c =
    let items = c.self.inside.list.items in
    let f = λ (s : String Global). string_bytes s in
    let long : c.args.place < length (map f items) = omega (arith, c.requires, ap length c.self.view_is) in
    let inside : c.args.place < length items = omega (arith, long, length-map items f) in
    subst IsFileName (get_or-map f items c.args.place c.index.result.now [] inside ∙ ap f (sym c.index.ensures) ∙ sym c.as_str.ensures.value)
    (All-get_or IsFileName (map f items) c.args.place [] long c.self.invariant.lawful)
