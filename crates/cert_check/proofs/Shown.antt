-- What a valid text gives.
use Rattle.std.proofs.Common.{◌≡◌, ℕ, List, [], Bool, cond, Option, Some, None, refl, sym, ◌∙◌, ap, subst, arith}
use Rattle.std.specs.Prelude.{option_map, count_by, IfSome}
use Rattle.std.specs.Result.{result_unwrap_or}
use Rattle.std.proofs.lemmas.List.FromFn.{length-map-range_with_len}
use Rattle.hex.specs.Hex.{decode_of}
use Rattle.seed_text.specs.SetTexts.{has_file}
use Rattle.seed_model.specs.declared.node.Node.{Node}
use Rattle.seed_model.specs.declared.range.Range.{Range}
use Rattle.seed_model.specs.Nodes.{IsNode}
use Rattle.seed_model.specs.Tables.{TableValue, IsTable}
use Rattle.bound_cert.specs.declared.heading.Answer.{Answer}
use Rattle.bound_cert.specs.declared.heading.Answer.TheVariants.{Optimal, Infeasible, Open}
use Rattle.bound_cert.specs.declared.heading.Claimed.{Claimed}
use Rattle.bound_cert.specs.declared.heading.Heading.{Heading}
use Rattle.bound_cert.specs.declared.heading.Pins.{Pins}
use Rattle.bound_cert.specs.declared.node_line.NodeLine.{NodeLine}
use Rattle.bound_cert.specs.Documents.{IsDocument}
use Rattle.bound_cert.specs.Grammar.{text_of}
use Rattle.bound_cert.specs.Judgements.{Told}
use Rattle.bound_cert.specs.Laws.{Says, ValidIsSo, LinesTellDocuments, IsToldBy, plan_named}
use Rattle.bound_cert.specs.Sets.{root_of, set_named}
use Rattle.bound_cert.specs.Trees.{is_branch}
use Rattle.bound_cert.specs.Valid.{IsValid, IsClaim, ArePins, Agrees}
use Rattle.cert_check.specs.declared.judged.Checked.{Checked}
use Rattle.cert_check.specs.declared.judged.Verdict.TheVariants.{Yes}
use Rattle.cert_check.specs.declared.kept.Kept.{Kept}
use Rattle.cert_check.specs.declared.kept.Sums.{Sums}
use Rattle.cert_check.specs.Checking.{IsSound, IsPlan, ShowsText, GoTogether, pins_node, migrated_by, replicated_by, shown_by, root_checked}
use Rattle.cert_check.specs.Judging.{Passed, checked_of, none_checked, migrated_in, replicated_in}
use Rattle.cert_check.specs.Keeping.{KeepsTold, has_pins, sums_of}
use Rattle.cert_check.proofs.Taking.{all_read}
use Rattle.seed_io.specs.Lines.{LineText, lines_of}

pins_same : (files : ℕ) (pinned : Bool) (root : Node) (pins : Option Pins) → pinned ≡ has_pins pins → root ≡ root_of files pins → cond pinned (Some root) None ≡ pins_node files pins
pins_same files pinned root None p r = ap (λ b. cond b (Some root) None) p
pins_same files pinned root (Some pins) p r = ap (λ b. cond b (Some root) None) p ∙ ap Some r

plan_same : (files : ℕ) (set : List Bool) (plan : Option Claimed) → IfSome plan (λ claimed. set ≡ set_named files claimed.set) → option_map (λ _. set) (option_map sums_of plan) ≡ plan_named files plan
plan_same files set None h = refl
plan_same files set (Some claimed) h = ap Some h

migrated_same : (plan : Option Claimed) → migrated_in (option_map sums_of plan) ≡ migrated_by plan
migrated_same None = refl
migrated_same (Some claimed) = refl

replicated_same : (plan : Option Claimed) → replicated_in (option_map sums_of plan) ≡ replicated_by plan
replicated_same None = refl
replicated_same (Some claimed) = refl

same_fields : (r s : Range) (n m : Option Node) (a b : Answer) (p q : Option (List Bool)) (x1 x2 y1 y2 : ℕ) (z1 z2 : Option ℕ) (c1 c2 : ℕ) → r ≡ s → n ≡ m → a ≡ b → p ≡ q → x1 ≡ x2 → y1 ≡ y2 → z1 ≡ z2 → c1 ≡ c2
    → let one : Checked = record { verdict = Yes; range = r; pins = n; answer = a; plan = p; migrated = x1; replicated = y1; bound = z1; branchings = c1 } in
    let other : Checked = record { verdict = Yes; range = s; pins = m; answer = b; plan = q; migrated = x2; replicated = y2; bound = z2; branchings = c2 } in one ≡ other
same_fields r s n m a b p q x1 x2 y1 y2 z1 z2 c1 c2 e1 e2 e3 e4 e5 e6 e7 e8 = cc

-- what is kept of lines that tell a document is what the document gives
pub kept_shows : (table : TableValue) (kept : Kept) (told : Told) (heading : Heading) (nodes : List NodeLine) → KeepsTold table kept told → IsToldBy heading nodes told → checked_of kept ≡ shown_by table.files heading nodes
kept_shows table kept told heading nodes k t =
    same_fields kept.range heading.range _ (pins_node table.files heading.pins) kept.answer heading.answer _ (plan_named table.files heading.plan) _ (migrated_by heading.plan) _ (replicated_by heading.plan) kept.bound heading.bound kept.branchings (count_by is_branch nodes)
    (k.range ∙ t.range)
    (pins_same table.files kept.pinned kept.path.root told.pins k.pinned k.root ∙ ap (pins_node table.files) t.pins)
    (k.answer ∙ t.answer)
    (ap (option_map (λ (_ : Sums). kept.plan)) k.sums ∙ (plan_same table.files kept.plan told.plan k.plan ∙ ap (plan_named table.files) t.plan))
    (ap migrated_in k.sums ∙ (migrated_same told.plan ∙ ap migrated_by t.plan))
    (ap replicated_in k.sums ∙ (replicated_same told.plan ∙ ap replicated_by t.plan))
    (k.bound ∙ t.bound)
    (k.branchings ∙ t.branchings)

-- a text of lines that pass
pub passed_shows : (table : TableValue) (kept : Kept) (lines : List LineText) (ended : Bool) (text : List ℕ) → LinesTellDocuments → Passed table kept lines ended → lines_of text ≡ lines → ShowsText table text (checked_of kept)
passed_shows table kept lines ended text law p is =
    let d = law table p.is_told.entries p.told p.is_told.tells p.past in
    record {
      heading = d.heading;
      nodes = d.nodes;
      document = d.document;
      text_is = all_read table lines p.told p.is_told text is ∙ ap text_of d.lines_are;
      valid = d.valid;
      shown = kept_shows table kept p.told d.heading d.nodes p.keeps d.told_by;
    }

-- what a valid document gives is so
pins_are : (files : ℕ) (pins : Option Pins) → ArePins files pins → IfSome (pins_node files pins) (IsNode files)
pins_are files None h = tt
pins_are files (Some pins) h = h.2

root_is : (files : ℕ) (pins : Option Pins) → root_checked files (pins_node files pins) ≡ root_of files pins
root_is files None = refl
root_is files (Some pins) = refl

plan_is : (table : TableValue) (range : Range) (root : Node) (plan : Option Claimed) → IfSome plan (IsClaim table range root) → IfSome (plan_named table.files plan) (IsPlan table (migrated_by plan) (replicated_by plan))
plan_is table range root None h = tt
plan_is table range root (Some claimed) h = record {
  files = length-map-range_with_len (has_file (result_unwrap_or (decode_of claimed.set) [])) 0 table.files;
  migrated_is = h.migrated;
  replicated_is = h.replicated;
}

together : (files : ℕ) (answer : Answer) (plan : Option Claimed) (bound : Option ℕ) → Agrees answer plan bound → GoTogether answer (option_map (λ _. replicated_by plan) (plan_named files plan)) bound
together files Optimal (Some c) (Some z) h = h
together files Optimal (Some c) None h = absurd h
together files Optimal None bound h = absurd h
together files Infeasible None None h = tt
together files Infeasible None (Some z) h = absurd h
together files Infeasible (Some c) bound h = absurd h
together files Open None (Some z) h = tt
together files Open None None h = absurd h
together files Open (Some c) (Some z) h = h
together files Open (Some c) None h = absurd h

pub shown_sound : (table : TableValue) (heading : Heading) (nodes : List NodeLine) → ValidIsSo → IsTable table → IsDocument heading nodes → IsValid table heading nodes → IsSound table (shown_by table.files heading nodes)
shown_sound table heading nodes law is_table document valid = record {
  range = let l = document.lawful.1.0 in record { ordered = l.0; small = l.1 };
  pins = pins_are table.files heading.pins valid.pins;
  plan = plan_is table heading.range (root_of table.files heading.pins) heading.plan valid.plan;
  says = λ _. subst (λ (n : Node). Says table heading.range n heading.answer (plan_named table.files heading.plan) heading.bound) (sym (root_is table.files heading.pins)) (law table heading nodes is_table valid);
  agrees = λ _. together table.files heading.answer heading.plan heading.bound valid.agrees;
}

pub passed_sound : (table : TableValue) (kept : Kept) (lines : List LineText) (ended : Bool) → LinesTellDocuments → ValidIsSo → IsTable table → Passed table kept lines ended → IsSound table (checked_of kept)
passed_sound table kept lines ended law so is_table p =
    let d = law table p.is_told.entries p.told p.is_told.tells p.past in
    subst (λ (c : Checked). IsSound table c) (sym (kept_shows table kept p.told d.heading d.nodes p.keeps d.told_by)) (shown_sound table d.heading d.nodes so is_table d.document d.valid)

pub none_sound : (table : TableValue) (line rule : ℕ) → IsSound table (none_checked line rule)
none_sound table line rule = record { range = record { ordered = omega arith; small = omega arith }; pins = tt; plan = tt; says = λ e. absurd cc; agrees = λ e. absurd cc }
