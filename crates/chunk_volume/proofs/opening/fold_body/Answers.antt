use Rattle.std.proofs.Common.{◌≡◌, ℕ, List, ◌∷◌, ◌∙◌, sym, ap, subst}
use Rattle.std.specs.Prelude.{IfOk}
use Rattle.chunk_volume.specs.Folding.{FoldsBody}
use Rattle.chunk_volume.proofs.Foldings.{body_folded, when_true}
use Rattle.chunk_volume.proofs.opening.fold_body.Goals as goal

pub returns-in-2-clause-folds : goal.returns-in-2-clause-folds
returns-in-2-clause-folds c = λ gate kind.
    let rest = c.in-Some.rest.now in
    let whole : 2 ∷ rest ≡ c.args.body.now = sym (c.in-Some.ensures.cases.0 ∙ ap (λ (n : ℕ). n ∷ rest) c.in-2.is) in
    subst (λ (l : List ℕ). IfOk c.fold_file.result (FoldsBody gate c.args.index.now c.fold_file.new.index l)) whole (c.fold_file.ensures gate)

pub returns-in-2-clause-folded : goal.returns-in-2-clause-folded
returns-in-2-clause-folded c = λ gate.
    let rest = c.in-Some.rest.now in
    let whole : 2 ∷ rest ≡ c.args.body.now = sym (c.in-Some.ensures.cases.0 ∙ ap (λ (n : ℕ). n ∷ rest) c.in-2.is) in
    body_folded gate c.args.index.now c.fold_file.new.index c.args.body.now c.fold_file.result
    (subst (λ (l : List ℕ). IfOk c.fold_file.result (FoldsBody gate c.args.index.now c.fold_file.new.index l)) whole (c.fold_file.ensures gate))

pub returns-in-3-clause-folds : goal.returns-in-3-clause-folds
returns-in-3-clause-folds c = λ gate kind.
    let rest = c.in-Some.rest.now in
    let whole : 3 ∷ rest ≡ c.args.body.now = sym (c.in-Some.ensures.cases.0 ∙ ap (λ (n : ℕ). n ∷ rest) c.in-3.is) in
    subst (λ (l : List ℕ). FoldsBody gate c.args.index.now c.fold_drop_file.new.index l c.fold_drop_file.result) whole (c.fold_drop_file.ensures gate)

pub returns-in-3-clause-folded : goal.returns-in-3-clause-folded
returns-in-3-clause-folded c = λ gate yes.
    let rest = c.in-Some.rest.now in
    let whole : 3 ∷ rest ≡ c.args.body.now = sym (c.in-Some.ensures.cases.0 ∙ ap (λ (n : ℕ). n ∷ rest) c.in-3.is) in
    when_true gate c.args.index.now c.fold_drop_file.new.index c.args.body.now c.fold_drop_file.result
    (subst (λ (l : List ℕ). FoldsBody gate c.args.index.now c.fold_drop_file.new.index l c.fold_drop_file.result) whole (c.fold_drop_file.ensures gate)) yes

pub returns-in-4-clause-folds : goal.returns-in-4-clause-folds
returns-in-4-clause-folds c = λ gate kind.
    let rest = c.in-Some.rest.now in
    let whole : 4 ∷ rest ≡ c.args.body.now = sym (c.in-Some.ensures.cases.0 ∙ ap (λ (n : ℕ). n ∷ rest) c.in-4.is) in
    subst (λ (l : List ℕ). FoldsBody gate c.args.index.now c.fold_drop_chunk.new.index l c.fold_drop_chunk.result) whole (c.fold_drop_chunk.ensures gate)

pub returns-in-4-clause-folded : goal.returns-in-4-clause-folded
returns-in-4-clause-folded c = λ gate yes.
    let rest = c.in-Some.rest.now in
    let whole : 4 ∷ rest ≡ c.args.body.now = sym (c.in-Some.ensures.cases.0 ∙ ap (λ (n : ℕ). n ∷ rest) c.in-4.is) in
    when_true gate c.args.index.now c.fold_drop_chunk.new.index c.args.body.now c.fold_drop_chunk.result
    (subst (λ (l : List ℕ). FoldsBody gate c.args.index.now c.fold_drop_chunk.new.index l c.fold_drop_chunk.result) whole (c.fold_drop_chunk.ensures gate)) yes
