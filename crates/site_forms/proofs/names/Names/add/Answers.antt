use Rattle.std.proofs.Common.{◌<◌, ◌∷◌, [], sym, ap, subst, arith, ◌∙◌, ◌++◌, length, List, ℕ, String, Global}
use Rattle.std.specs.Prelude.{string_bytes, map}
use Rattle.std.proofs.lemmas.List.{map-append}
use Rattle.seed_model.specs.declared.limits.TheConstants.{MOST_FILES}
use Rattle.site_forms.specs.Names.{IsNames}
use Rattle.site_forms.proofs.NameLists.{one_name_more}
use Rattle.site_forms.proofs.names.Names.add.Goals as goal

pub invariant_of-self-2 : goal.invariant_of-self-2
invariant_of-self-2 c =
    let f = λ (s : String Global). string_bytes s in
    let items = c.self.inside.list.items in
    let name = c.in_ok-copy.ensures.ok in
    let room : length (map f items) < MOST_FILES = omega (arith, c.requires.room, ap length c.self.view_is) in
    subst IsNames
    (ap (λ (b : List ℕ). map f items ++ b ∷ []) (sym name) ∙ sym (map-append f items (c.in_ok-copy.copy ∷ [])) ∙ ap (map f) (sym c.in_ok-push.ensures.items))
    (one_name_more (map f items) c.args.name.now c.self.invariant room c.requires.lawful)
