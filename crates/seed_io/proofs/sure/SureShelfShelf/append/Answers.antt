use Rattle.std.proofs.Common.{◌≡◌, ◌∙◌, ap, Some, refl, arith, rules}
use Rattle.std.proofs.lemmas.Map.Text.{text_keys}
use Rattle.std.specs.BTreeMap.{get_by_text}
use Rattle.seed_io.specs.Memory.{files_told}
use Rattle.seed_io.proofs.Outcomes.{appends_nothing}
use Rattle.seed_io.proofs.sure.SureShelfShelf.append.Goals as goal

pub returns-in-Ok-clause-map : goal.returns-in-Ok-clause-map
returns-in-Ok-clause-map c = λ t.
    let now : get_by_text (c.get_mut.follows.lender c.extend_from_slice.new.self) c.args.name.now ≡ Some c.extend_from_slice.new.self = grind (arith, text_keys) in
    let was : get_by_text c.args.self.now.files c.args.name.now ≡ Some c.in-Some.file.now = search rules in
    record {
      others = λ other ne. grind (arith, text_keys);
      ok = rw (now, was, c.in-Ok.ensures.items) refl;
      fault = λ f. cc f;
      memory = λ f. cc f;
    }

pub returns-in-Err-clause-map : goal.returns-in-Err-clause-map
returns-in-Err-clause-map c = λ t.
    let now : get_by_text (c.get_mut.follows.lender c.extend_from_slice.new.self) c.args.name.now ≡ Some c.extend_from_slice.new.self = grind (arith, text_keys) in
    let was : get_by_text c.args.self.now.files c.args.name.now ≡ Some c.in-Some.file.now = search rules in
    record {
      others = λ other ne. grind (arith, text_keys);
      ok = tt;
      fault = λ f. cc f;
      memory = λ f. rw (now, was, c.in-Err.ensures.items) refl;
    }

pub returns-else-put-clause-map : goal.returns-else-put-clause-map
returns-else-put-clause-map c = λ t. appends_nothing _ _ _ _ (c.put.ensures.same c.if-put.false ∙ ap files_told c.get_mut.follows.holds-at-none)
