use Rattle.std.proofs.Common.{◌≡◌, ◌≢◌, ◌≤◌, ◌+◌, ℕ, List, length, false, sym, ◌∙◌, ap, subst, arith}
use Rattle.std.specs.Prelude.{slice_index, IfOk}
use Rattle.std.proofs.lemmas.Bool.{true≢false}
use Rattle.volume_disk.specs.Medium.{Medium}
use Rattle.device_pieces.specs.Pieces.{Shows}
use Rattle.chunk_volume.specs.Folding.{FoldsBody, IsUndamaged, is_front_half}
use Rattle.chunk_volume.specs.Pieces.{bytes_at}
use Rattle.chunk_volume.proofs.Foldings.{bytes_long, front_at, front_kind, next_by}
use Rattle.chunk_volume.proofs.opening.fold_next.Goals as goal

pub returns-then-front-eq1-clause-folds : goal.returns-then-front-eq1-clause-folds
returns-then-front-eq1-clause-folds g c = λ gate honest shows placed whole.
    let image = (g.R.Rack.disk c.args.rack.now c.args.log.now.device).image in
    let at = c.args.place.at in
    let len = c.args.place.len in
    let body = bytes_at image at len in
    let long = bytes_long image at len whole in
    let front = front_at image c.in_ok-front.front at len whole (c.in_ok-front.ensures.front honest shows) in
    let behind : is_front_half gate body ≡ false = sym (c.is_in_front.ensures gate body placed long front) ∙ c.if-is_in_front.false in
    record { half = λ is. absurd (true≢false (sym is ∙ behind)); record_is = λ _. c.in_ok-fold_chunk.ensures.folds gate body placed long front }

pub returns-clause-folds : goal.returns-clause-folds
returns-clause-folds g c = λ gate honest shows placed whole.
    let image = (g.R.Rack.disk c.args.rack.now c.args.log.now.device).image in
    let at = c.args.place.at in
    let len = c.args.place.len in
    let body = bytes_at image at len in
    let long = bytes_long image at len whole in
    let front = front_at image c.in_ok-front.front at len whole (c.in_ok-front.ensures.front honest shows) in
    let behind : is_front_half gate body ≡ false = sym (c.is_in_front.ensures gate body placed long front) ∙ c.if-is_in_front.false in
    let here : (g.R.Rack.disk c.read_front.new.rack c.args.log.now.device).image ≡ image = ap (λ (m : Medium). m.image) ((c.in_ok-front.ensures.quiet honest).same c.args.log.now.device) in
    let kind : slice_index body 0 ≢ 1 = λ one. c.if-front-eq1.false (front_kind c.in_ok-front.front body (omega (arith, long, c.requires.some)) front ∙ one) in
    let shown = c.in_ok-front.ensures.shows honest shows in
    let folds = subst (λ (l : List ℕ). Shows l c.read_front.new.piece → slice_index (bytes_at l at len) 0 ≢ 1 → IfOk c.fold_whole.result (FoldsBody gate c.args.index.now c.fold_whole.new.index (bytes_at l at len))) here (c.fold_whole.ensures.folds gate (c.in_ok-front.ensures.honest ∙ honest)) in
    next_by gate c.args.index.now c.fold_whole.new.index body c.fold_whole.result behind (folds shown kind)

pub returns-clause-undamaged : goal.returns-clause-undamaged
returns-clause-undamaged g c = λ honest shows whole.
    let image = (g.R.Rack.disk c.args.rack.now c.args.log.now.device).image in
    let end = c.args.place.at + c.args.place.len in
    let here : (g.R.Rack.disk c.read_front.new.rack c.args.log.now.device).image ≡ image = ap (λ (m : Medium). m.image) ((c.in_ok-front.ensures.quiet honest).same c.args.log.now.device) in
    subst (λ (l : List ℕ). Shows l c.read_front.new.piece → end ≤ length l → IsUndamaged c.fold_whole.result) here (c.fold_whole.ensures.undamaged (c.in_ok-front.ensures.honest ∙ honest)) (c.in_ok-front.ensures.shows honest shows) whole

pub returns-clause-shows : goal.returns-clause-shows
returns-clause-shows g c = λ honest shows.
    let image = (g.R.Rack.disk c.args.rack.now c.args.log.now.device).image in
    let here : (g.R.Rack.disk c.read_front.new.rack c.args.log.now.device).image ≡ image = ap (λ (m : Medium). m.image) ((c.in_ok-front.ensures.quiet honest).same c.args.log.now.device) in
    subst (λ (l : List ℕ). Shows l c.read_front.new.piece → Shows l c.fold_whole.new.piece) here (c.fold_whole.ensures.shows (c.in_ok-front.ensures.honest ∙ honest)) (c.in_ok-front.ensures.shows honest shows)
