use Rattle.std.proofs.Common.{◌≡◌, List, ℕ, sym, ◌∙◌, ap, arith}
use Rattle.std.specs.Prelude.{nat_eq}
use Rattle.std.specs.Cmp.{tied_itself}
use Rattle.std.specs.Cmp.Lexicographic.{pointwise, nat_list_cmp_total, texts_ties}
use Rattle.std.specs.Ordering.{is_eq}
use Rattle.std.proofs.lemmas.Bool.{true≢false}
use Rattle.volume_index.proofs.FileReads.{not_found}
use Rattle.volume_index.proofs.TableReads.{key_is}
use Rattle.volume_index.proofs.file_table.FileTable.find.Goals as goal

pub returns-then-len-rank : goal.returns-then-len-rank
returns-then-len-rank c = not_found c.args.self.now.files c.args.name.now c.rank-rank.result c.rank-rank.ensures (λ less. absurd (omega (arith, less, c.len.ensures, c.if-len-rank.true)))

pub returns : goal.returns
returns c =
    let name = c.args.name.now in
    not_found c.args.self.now.files name c.rank-rank.result c.rank-rank.ensures (λ less same.
    let names : c.name_at.result.now ≡ name = sym (key_is c.args.self.now.files c.rank-rank.result c.name_at.result.now c.name_at.ensures) ∙ same in
    true≢false (sym (texts_ties name name ∙ ap is_eq (tied_itself nat_list_cmp_total name)) ∙ ap (λ (x : List ℕ). pointwise nat_eq x name) (sym names) ∙ sym c.eq.ensures ∙ c.if-eq.false))
