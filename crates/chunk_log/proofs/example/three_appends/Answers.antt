use Rattle.std.proofs.Common.{◌∙◌, ◌∷◌, [], List, ℕ, refl, arith}
use Rattle.chunk_log.proofs.Appends.{run_begins, run_next, run_ok}
use Rattle.chunk_log.proofs.example.three_appends.Goals as goal

pub returns-in_err-append-clause-moments : goal.returns-in_err-append-clause-moments
returns-in_err-append-clause-moments g c = λ logs records honest is_home is_away plain_one plain_two plain_three all.
    let rack = g.R.Rack in
    let plan : List (ℕ × List ℕ) = (0, c.args.one.now.body) ∷ (1, c.args.two.now.body) ∷ (0, c.args.three.now.body) ∷ [] in
    let start = run_begins rack.moment rack.left_since c.args.rack.now plan records (rack.disk c.args.rack.now) logs (λ x left. g.met.R.Rack.only_now _ x honest left) all in
    run_next rack.moment rack.left_since c.args.rack.now plan records 0 refl (omega arith) plain_one is_home start (c.append.ensures.appended honest)

pub returns-in_err-append-2-clause-moments : goal.returns-in_err-append-2-clause-moments
returns-in_err-append-2-clause-moments g c = λ logs records honest is_home is_away plain_one plain_two plain_three all.
    let rack = g.R.Rack in
    let plan : List (ℕ × List ℕ) = (0, c.args.one.now.body) ∷ (1, c.args.two.now.body) ∷ (0, c.args.three.now.body) ∷ [] in
    let start = run_begins rack.moment rack.left_since c.args.rack.now plan records (rack.disk c.args.rack.now) logs (λ x left. g.met.R.Rack.only_now _ x honest left) all in
    let one = run_ok rack.moment rack.left_since c.args.rack.now plan records 0 refl (omega arith) plain_one is_home start (c.in_ok-append.ensures.appended honest) in
    run_next rack.moment rack.left_since c.args.rack.now plan records 1 refl (omega arith) plain_two is_away one (c.append-2.ensures.appended (c.append.ensures.honest ∙ honest))

pub returns-in_err-append-3-clause-moments : goal.returns-in_err-append-3-clause-moments
returns-in_err-append-3-clause-moments g c = λ logs records honest is_home is_away plain_one plain_two plain_three all.
    let rack = g.R.Rack in
    let plan : List (ℕ × List ℕ) = (0, c.args.one.now.body) ∷ (1, c.args.two.now.body) ∷ (0, c.args.three.now.body) ∷ [] in
    let honest_1 = c.append.ensures.honest ∙ honest in
    let start = run_begins rack.moment rack.left_since c.args.rack.now plan records (rack.disk c.args.rack.now) logs (λ x left. g.met.R.Rack.only_now _ x honest left) all in
    let one = run_ok rack.moment rack.left_since c.args.rack.now plan records 0 refl (omega arith) plain_one is_home start (c.in_ok-append.ensures.appended honest) in
    let two = run_ok rack.moment rack.left_since c.args.rack.now plan records 1 refl (omega arith) plain_two is_away one (c.in_ok-append-2.ensures.appended honest_1) in
    run_next rack.moment rack.left_since c.args.rack.now plan records 0 refl (omega arith) plain_three refl two (c.append-3.ensures.appended (c.append-2.ensures.honest ∙ honest_1))

pub returns-clause-moments : goal.returns-clause-moments
returns-clause-moments g c = λ logs records honest is_home is_away plain_one plain_two plain_three all.
    let rack = g.R.Rack in
    let plan : List (ℕ × List ℕ) = (0, c.args.one.now.body) ∷ (1, c.args.two.now.body) ∷ (0, c.args.three.now.body) ∷ [] in
    let honest_1 = c.append.ensures.honest ∙ honest in
    let start = run_begins rack.moment rack.left_since c.args.rack.now plan records (rack.disk c.args.rack.now) logs (λ x left. g.met.R.Rack.only_now _ x honest left) all in
    let one = run_ok rack.moment rack.left_since c.args.rack.now plan records 0 refl (omega arith) plain_one is_home start (c.in_ok-append.ensures.appended honest) in
    let two = run_ok rack.moment rack.left_since c.args.rack.now plan records 1 refl (omega arith) plain_two is_away one (c.in_ok-append-2.ensures.appended honest_1) in
    run_next rack.moment rack.left_since c.args.rack.now plan records 0 refl (omega arith) plain_three refl two (c.append-3.ensures.appended (c.append-2.ensures.honest ∙ honest_1))
