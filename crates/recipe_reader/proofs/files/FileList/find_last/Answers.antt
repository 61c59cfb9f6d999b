use Rattle.std.proofs.Common.{◌≡◌, ◌∙◌, ◌-◌, Some, String, Global, true, length, slice_get, sym}
use Rattle.std.specs.Cmp.Lexicographic.{same_text}
use Rattle.std.specs.String.{string_bytes}
use Rattle.recipe_reader.specs.Recipes.{is_named}
use Rattle.list_facts.proofs.Numbering.{number_of_only, to_view}
use Rattle.recipe_reader.proofs.files.FileList.find_last.Goals as goal

pub returns-then-eq : goal.returns-then-eq
returns-then-eq c =
    let name = c.args.name.now in
    let keys = c.self.inside.names.keys in
    let last : String Global = c.in-Some.last.now in
    let at : slice_get keys (length keys - 1) ≡ Some last = sym c.in-Some.ensures.key in
    let passes : is_named name (string_bytes last) ≡ true = rw (← c.as_bytes.ensures.value) (sym c.eq.ensures ∙ c.if-eq.true) in
    rw (← c.self.view_is, c.len.ensures.len) (to_view string_bytes (is_named name) keys (Some (length keys - 1))
    (number_of_only (λ (a b : String Global). is_named (string_bytes a) (string_bytes b)) (λ (s : String Global). is_named name (string_bytes s)) keys (length keys - 1) last c.len.ensures.unique
    (λ s same. rw (← same_text name (string_bytes s) (sym same)) passes) at passes))
