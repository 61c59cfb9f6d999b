use Rattle.std.specs.Prelude.{IfOk}
use Rattle.std.proofs.Common.{rules, ◌≡◌, ◌≤◌, ℕ, List, [], ◌∷◌, length, refl, sym, ◌∙◌, ap, subst, arith}
use Rattle.std.proofs.lemmas.Result.{IfOk-weaker}
use Rattle.volume_disk.specs.Medium.{Medium}
use Rattle.volume_disk.specs.Disk.{Images, Crash}
use Rattle.volume_disk.specs.Left.{OneWriteAt}
use Rattle.volume_disk.proofs.Moments.{begins, leads_on}
use Rattle.volume_disk.proofs.Leads.{goes_on_same, goes_on_synced}
use Rattle.site_forms.specs.Halves.{SameRecords}
use Rattle.device_pieces.specs.PieceValues.{PieceValue}
use Rattle.device_pieces.specs.Pieces.{Shows}
use Rattle.device_pieces.proofs.Shown.{shows_nothing}
use Rattle.chunk_log.specs.Opening.{Finds, Opens}
use Rattle.chunk_log.proofs.Blanks.{blank_leads}
use Rattle.chunk_log.proofs.Opened.{opened_from, opened_blank}
use Rattle.device_pieces.proofs.Quiets.{goes_on_quiet}
use Rattle.chunk_log.proofs.opening.settle.Goals as goal

pub returns-in_err-sync-clause-settled : goal.returns-in_err-sync-clause-settled
returns-in_err-sync-clause-settled g c = λ honest.
    let rack = g.R.Rack in
    let d = rack.disk c.args.rack.now in
    let P = λ (x : Images). (b : Images) × Crash d b × SameRecords b x in
    let start = begins rack.moment rack.left_since c.args.rack.now P (λ x left. (x, g.met.R.Rack.only_now _ x honest left, λ place is_place. refl)) in
    let one = goes_on_synced rack.moment rack.left_since _ _ _ P _ _ c.args.device c.sync.result (λ t x le crash. g.met.R.Rack.counts_now _ t x honest le crash) start (c.sync.ensures.time honest) (g.met.R.Rack.reads_alike _ c.args.device honest) (c.sync.ensures.disk honest) in
    record { others = (c.sync.ensures.disk honest).others; opens = search rules; moments = one }

pub returns-in_err-size-clause-settled : goal.returns-in_err-size-clause-settled
returns-in_err-size-clause-settled g c = λ honest.
    let rack = g.R.Rack in
    let d = rack.disk c.args.rack.now in
    let P = λ (x : Images). (b : Images) × Crash d b × SameRecords b x in
    let start = begins rack.moment rack.left_since c.args.rack.now P (λ x left. (x, g.met.R.Rack.only_now _ x honest left, λ place is_place. refl)) in
    let one = goes_on_synced rack.moment rack.left_since _ _ _ P _ _ c.args.device c.sync.result (λ t x le crash. g.met.R.Rack.counts_now _ t x honest le crash) start (c.sync.ensures.time honest) (g.met.R.Rack.reads_alike _ c.args.device honest) (c.sync.ensures.disk honest) in
    let honest_1 = c.sync.ensures.honest ∙ honest in
    let two = goes_on_same rack.moment rack.left_since _ _ _ P _ _ (λ t x le crash. g.met.R.Rack.counts_now _ t x honest_1 le crash) one (c.size.ensures.time honest_1) (c.size.ensures.same honest_1) in
    record { others = λ k out. c.size.ensures.same honest_1 k ∙ (c.sync.ensures.disk honest).others k out; opens = search rules; moments = two }

pub returns-in_err-put_down-clause-settled : goal.returns-in_err-put_down-clause-settled
returns-in_err-put_down-clause-settled g c = λ honest.
    let rack = g.R.Rack in
    let d = rack.disk c.args.rack.now in
    let P = λ (x : Images). (b : Images) × Crash d b × SameRecords b x in
    let start = begins rack.moment rack.left_since c.args.rack.now P (λ x left. (x, g.met.R.Rack.only_now _ x honest left, λ place is_place. refl)) in
    let one = goes_on_synced rack.moment rack.left_since _ _ _ P _ _ c.args.device c.sync.result (λ t x le crash. g.met.R.Rack.counts_now _ t x honest le crash) start (c.sync.ensures.time honest) (g.met.R.Rack.reads_alike _ c.args.device honest) (c.sync.ensures.disk honest) in
    let honest_1 = c.sync.ensures.honest ∙ honest in
    let two = goes_on_same rack.moment rack.left_since _ _ _ P _ _ (λ t x le crash. g.met.R.Rack.counts_now _ t x honest_1 le crash) one (c.size.ensures.time honest_1) (c.size.ensures.same honest_1) in
    let honest_2 = c.size.ensures.honest ∙ honest_1 in
    let image = (d c.args.device).image in
    let flat = (c.in_ok-sync.ensures.disk honest).ok in
    let rest = c.size.ensures.same honest_1 c.args.device ∙ flat in
    let long = c.in_ok-size.ensures.value honest_1 ∙ ap (λ (m : Medium). length m.image) flat in
    let short : length image ≤ 1 = omega (arith, long, c.if-size-le1.true) in
    record {
      others = λ k out. (c.put_down.ensures.put_down honest_2).others k out ∙ c.size.ensures.same honest_1 k ∙ (c.sync.ensures.disk honest).others k out;
      opens = search rules;
      moments = leads_on rack.moment rack.left_since _ _ _ (Crash d) (Crash (rack.disk c.size.new.self)) SameRecords (OneWriteAt c.args.device 0 (0 ∷ []))
          (λ t x le crash. g.met.R.Rack.counts_now _ t x honest_2 le crash) two ((c.put_down.ensures.put_down honest_2).moments image rest (omega arith))
          (λ b z x crash was one place is_place. blank_leads c.args.device 0 (0 ∷ []) image (rack.disk c.size.new.self) z x c.requires.device rest short (omega arith) crash one place ∙ was place is_place);
    }

pub returns-then-size-le1-clause-settled : goal.returns-then-size-le1-clause-settled
returns-then-size-le1-clause-settled g c = λ honest.
    let rack = g.R.Rack in
    let d = rack.disk c.args.rack.now in
    let P = λ (x : Images). (b : Images) × Crash d b × SameRecords b x in
    let start = begins rack.moment rack.left_since c.args.rack.now P (λ x left. (x, g.met.R.Rack.only_now _ x honest left, λ place is_place. refl)) in
    let one = goes_on_synced rack.moment rack.left_since _ _ _ P _ _ c.args.device c.sync.result (λ t x le crash. g.met.R.Rack.counts_now _ t x honest le crash) start (c.sync.ensures.time honest) (g.met.R.Rack.reads_alike _ c.args.device honest) (c.sync.ensures.disk honest) in
    let honest_1 = c.sync.ensures.honest ∙ honest in
    let two = goes_on_same rack.moment rack.left_since _ _ _ P _ _ (λ t x le crash. g.met.R.Rack.counts_now _ t x honest_1 le crash) one (c.size.ensures.time honest_1) (c.size.ensures.same honest_1) in
    let honest_2 = c.size.ensures.honest ∙ honest_1 in
    let image = (d c.args.device).image in
    let flat = (c.in_ok-sync.ensures.disk honest).ok in
    let rest = c.size.ensures.same honest_1 c.args.device ∙ flat in
    let long = c.in_ok-size.ensures.value honest_1 ∙ ap (λ (m : Medium). length m.image) flat in
    let short : length image ≤ 1 = omega (arith, long, c.if-size-le1.true) in
    record {
      others = λ k out. (c.put_down.ensures.put_down honest_2).others k out ∙ c.size.ensures.same honest_1 k ∙ (c.sync.ensures.disk honest).others k out;
      opens = opened_blank image _ short ((c.in_ok-put_down.ensures.put_down honest_2).rest image rest);
      moments = leads_on rack.moment rack.left_since _ _ _ (Crash d) (Crash (rack.disk c.size.new.self)) SameRecords (OneWriteAt c.args.device 0 (0 ∷ []))
          (λ t x le crash. g.met.R.Rack.counts_now _ t x honest_2 le crash) two ((c.put_down.ensures.put_down honest_2).moments image rest (omega arith))
          (λ b z x crash was one place is_place. blank_leads c.args.device 0 (0 ∷ []) image (rack.disk c.size.new.self) z x c.requires.device rest short (omega arith) crash one place ∙ was place is_place);
    }

pub returns-clause-settled : goal.returns-clause-settled
returns-clause-settled g c = λ honest.
    let rack = g.R.Rack in
    let d = rack.disk c.args.rack.now in
    let P = λ (x : Images). (b : Images) × Crash d b × SameRecords b x in
    let start = begins rack.moment rack.left_since c.args.rack.now P (λ x left. (x, g.met.R.Rack.only_now _ x honest left, λ place is_place. refl)) in
    let one = goes_on_synced rack.moment rack.left_since _ _ _ P _ _ c.args.device c.sync.result (λ t x le crash. g.met.R.Rack.counts_now _ t x honest le crash) start (c.sync.ensures.time honest) (g.met.R.Rack.reads_alike _ c.args.device honest) (c.sync.ensures.disk honest) in
    let honest_1 = c.sync.ensures.honest ∙ honest in
    let two = goes_on_same rack.moment rack.left_since _ _ _ P _ _ (λ t x le crash. g.met.R.Rack.counts_now _ t x honest_1 le crash) one (c.size.ensures.time honest_1) (c.size.ensures.same honest_1) in
    let honest_2 = c.size.ensures.honest ∙ honest_1 in
    let image = (d c.args.device).image in
    let flat = (c.in_ok-sync.ensures.disk honest).ok in
    let rest = c.size.ensures.same honest_1 c.args.device ∙ flat in
    let long = c.in_ok-size.ensures.value honest_1 ∙ ap (λ (m : Medium). length m.image) flat in
    let same : (rack.disk c.size.new.self c.args.device).image ≡ image = ap (λ (m : Medium). m.image) rest in
    let wide : 2 ≤ c.in_ok-size.size = omega (arith, c.if-size-le1.false) in
    record {
      others = λ k out. (c.find_end.ensures.quiet honest_2).same k ∙ c.size.ensures.same honest_1 k ∙ (c.sync.ensures.disk honest).others k out;
      opens = IfOk-weaker c.find_end.result (Finds (rack.disk c.size.new.self c.args.device).image) (Opens image (rack.disk c.find_end.new.rack c.args.device))
          (λ found finds. opened_from image _ (omega (arith, wide, long)) ((c.find_end.ensures.quiet honest_2).same c.args.device ∙ rest) found (subst (λ (l : List ℕ). Finds l found) same finds))
          (subst (λ (k : ℕ). Shows (rack.disk c.size.new.self k).image c.args.piece.now → c.in_ok-size.size ≡ length (rack.disk c.size.new.self k).image → 2 ≤ c.in_ok-size.size → IfOk c.find_end.result (Finds (rack.disk c.size.new.self k).image))
          (ap (λ (v : PieceValue). v.device) c.requires.piece) (c.find_end.ensures.finds honest_2) (shows_nothing _ c.args.piece.now c.args.device c.requires.piece)
          (c.in_ok-size.ensures.value honest_1 ∙ sym (ap (λ (m : Medium). length m.image) (c.size.ensures.same honest_1 c.args.device))) wide);
      moments = goes_on_quiet rack.moment rack.left_since _ _ _ P _ _ (λ t x le crash. g.met.R.Rack.counts_now _ t x honest_2 le crash) two (c.find_end.ensures.quiet honest_2);
    }

pub returns-in_err-sync-clause-shows : goal.returns-in_err-sync-clause-shows
returns-in_err-sync-clause-shows g c = λ honest. shows_nothing _ c.args.piece.now c.args.device c.requires.piece

pub returns-in_err-size-clause-shows : goal.returns-in_err-size-clause-shows
returns-in_err-size-clause-shows g c = λ honest. shows_nothing _ c.args.piece.now c.args.device c.requires.piece

pub returns-in_err-put_down-clause-shows : goal.returns-in_err-put_down-clause-shows
returns-in_err-put_down-clause-shows g c = λ honest. shows_nothing _ c.args.piece.now c.args.device c.requires.piece

pub returns-then-size-le1-clause-shows : goal.returns-then-size-le1-clause-shows
returns-then-size-le1-clause-shows g c = λ honest. shows_nothing _ c.args.piece.now c.args.device c.requires.piece

pub returns-clause-shows : goal.returns-clause-shows
returns-clause-shows g c = λ honest.
    let rack = g.R.Rack in
    let honest_2 = c.size.ensures.honest ∙ c.sync.ensures.honest ∙ honest in
    let device = ap (λ (v : PieceValue). v.device) c.requires.piece in
    subst (λ (l : List ℕ). Shows l c.find_end.new.piece) (sym (ap (λ (m : Medium). m.image) ((c.find_end.ensures.quiet honest_2).same c.args.device)))
    (subst (λ (k : ℕ). Shows (rack.disk c.size.new.self k).image c.args.piece.now → Shows (rack.disk c.size.new.self k).image c.find_end.new.piece) device (c.find_end.ensures.shows honest_2) (shows_nothing _ c.args.piece.now c.args.device c.requires.piece))
