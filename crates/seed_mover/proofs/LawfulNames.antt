-- The names of a phase are lawful, each once: in what records fold to, and by the test for it.
use Rattle.std.proofs.Common.{◌≡◌, ℕ, suc, List, [], ◌∷◌, length, Bool, true, false, Some, refl, sym, ◌∙◌, subst, arith}
use Rattle.std.specs.Prelude.{All, nat_le, ◌&&◌}
use Rattle.std.specs.List.{list_all}
use Rattle.std.proofs.lemmas.Bool.{and_from, le-leb, true≢false}
use Rattle.seed_model.specs.declared.limits.TheConstants.{MOST_FILES}
use Rattle.file_names.specs.FileNames.{IsFileName}
use Rattle.site_forms.specs.declared.phase.Phase.{Phase}
use Rattle.site_forms.specs.declared.phase.Phase.TheVariants.{Idle, Moving, Moved, Undoing}
use Rattle.site_forms.specs.JournalRecords.{JournalRecord, journal_record}
use Rattle.site_forms.specs.JournalRecords.JournalRecord.{BeginRecord, MovedRecord, UndoBeginRecord, UndoneRecord, AcceptedRecord}
use Rattle.site_forms.specs.Names.{IsNames, is_distinct, is_name, is_name_list}
use Rattle.site_forms.specs.Phases.{names_of, phase_after, phase_of, phase_step}
use Rattle.site_forms.specs.Volumes.{fold_from}
use Rattle.site_forms.proofs.NameTests.{name_test}
use Rattle.site_core.proofs.Folding.{and_then_some}
use Rattle.site_core.proofs.Keeping.{distinct_of}
use Rattle.site_core.proofs.Turning.{if_some}

-- WHAT RECORDS FOLD TO

phase_names : (phase : Phase) (r : JournalRecord) (next : Phase) → is_name_list (names_of phase) ≡ true → phase_after phase r ≡ Some next → is_name_list (names_of next) ≡ true
phase_names Idle (BeginRecord names) next lawful folds =
    let its = if_some (is_name_list names) (Moving names) next folds in
    subst (λ (p : Phase). is_name_list (names_of p) ≡ true) its.1 its.0
phase_names Idle MovedRecord next lawful folds = let no : ⊥ = cc in absurd no
phase_names Idle UndoBeginRecord next lawful folds = let no : ⊥ = cc in absurd no
phase_names Idle UndoneRecord next lawful folds = let no : ⊥ = cc in absurd no
phase_names Idle AcceptedRecord next lawful folds = let no : ⊥ = cc in absurd no
phase_names (Moving names) (BeginRecord more) next lawful folds = let no : ⊥ = cc in absurd no
phase_names (Moving names) MovedRecord next lawful folds = let same : Moved names ≡ next = cc in subst (λ (p : Phase). is_name_list (names_of p) ≡ true) same lawful
phase_names (Moving names) UndoBeginRecord next lawful folds = let same : Undoing names ≡ next = cc in subst (λ (p : Phase). is_name_list (names_of p) ≡ true) same lawful
phase_names (Moving names) UndoneRecord next lawful folds = let no : ⊥ = cc in absurd no
phase_names (Moving names) AcceptedRecord next lawful folds = let no : ⊥ = cc in absurd no
phase_names (Moved names) (BeginRecord more) next lawful folds = let no : ⊥ = cc in absurd no
phase_names (Moved names) MovedRecord next lawful folds = let no : ⊥ = cc in absurd no
phase_names (Moved names) UndoBeginRecord next lawful folds = let same : Undoing names ≡ next = cc in subst (λ (p : Phase). is_name_list (names_of p) ≡ true) same lawful
phase_names (Moved names) UndoneRecord next lawful folds = let no : ⊥ = cc in absurd no
phase_names (Moved names) AcceptedRecord next lawful folds = let same : Idle ≡ next = cc in subst (λ (p : Phase). is_name_list (names_of p) ≡ true) same refl
phase_names (Undoing names) (BeginRecord more) next lawful folds = let no : ⊥ = cc in absurd no
phase_names (Undoing names) MovedRecord next lawful folds = let no : ⊥ = cc in absurd no
phase_names (Undoing names) UndoBeginRecord next lawful folds = let no : ⊥ = cc in absurd no
phase_names (Undoing names) UndoneRecord next lawful folds = let same : Idle ≡ next = cc in subst (λ (p : Phase). is_name_list (names_of p) ≡ true) same refl
phase_names (Undoing names) AcceptedRecord next lawful folds = let no : ⊥ = cc in absurd no

fold_names : (bodies : List (List ℕ)) (state phase : Phase) → is_name_list (names_of state) ≡ true → fold_from phase_step state bodies ≡ Some phase → is_name_list (names_of phase) ≡ true
fold_names [] state phase lawful folds = let same : state ≡ phase = cc in subst (λ (p : Phase). is_name_list (names_of p) ≡ true) same lawful
fold_names (body ∷ bodies) state phase lawful folds =
    let one = and_then_some (λ next. fold_from phase_step next bodies) (phase_step state body) phase folds in
    let its = and_then_some (λ r. phase_after state r) (journal_record body) one.0 one.1 in
    fold_names bodies one.0 phase (phase_names state its.0 one.0 lawful its.2) one.2

pub folded_names : (bodies : List (List ℕ)) (phase : Phase) → phase_of bodies ≡ Some phase → is_name_list (names_of phase) ≡ true
folded_names bodies phase folds = fold_names bodies Idle phase refl folds

-- BY THEIR TEST

all_names : (names : List (List ℕ)) → All IsFileName names → list_all is_name names ≡ true
all_names [] all = refl
all_names (name ∷ names) all = and_from (is_name name) (list_all is_name names) ((name_test name).1 (all 0 [] (omega arith))) (all_names names (λ k d inside. all (suc k) d (omega (arith, inside))))

pub names_listed : (names : List (List ℕ)) → IsNames names → is_distinct names ≡ true → is_name_list names ≡ true
names_listed names keeps distinct =
    and_from (nat_le (length names) MOST_FILES) (list_all is_name names && is_distinct names) (le-leb (length names) MOST_FILES keeps.few) (and_from (list_all is_name names) (is_distinct names) (all_names names keeps.lawful) distinct)

same_test : (names : List (List ℕ)) (distinct lawful : Bool) → is_distinct names ≡ distinct → is_name_list names ≡ lawful → IsNames names → distinct ≡ lawful
same_test names true lawful one two keeps = sym (names_listed names keeps one) ∙ two
same_test names false true one two keeps = absurd (true≢false (sym (distinct_of names two) ∙ one))
same_test names false false one two keeps = refl

pub distinct_lawful : (names : List (List ℕ)) → IsNames names → is_distinct names ≡ is_name_list names
distinct_lawful names keeps = same_test names (is_distinct names) (is_name_list names) refl refl keeps
