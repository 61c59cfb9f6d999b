use Rattle.std.proofs.Common.{◌≡◌, ◌<◌, ◌≤◌, length, take, arith, length-take, take_all}
use Rattle.std.proofs.lemmas.List.{length-take, take_all}
use Rattle.seed_io.proofs.LineLaws.{no_lf}
use Rattle.seed_io.proofs.lines.line_in.Goals as goal

pub returns-in-None : goal.returns-in-None
returns-in-None c =
    let none = no_lf (take c.min.result c.args.bytes.now) c.in-None.ensures in
    let long : 16384 < length (take c.min.result c.args.bytes.now) = c.if-front-gt-LONGEST_LINE.true in
    let most : c.min.result ≡ 16385 = omega (arith, c.min.ensures, long, length-take c.min.result c.args.bytes.now) in
    (omega (arith, long, length-take c.min.result c.args.bytes.now), rw most at none)

pub returns-in-None-2 : goal.returns-in-None-2
returns-in-None-2 c =
    let none = no_lf (take c.min.result c.args.bytes.now) c.in-None-2.ensures in
    let short : length (take c.min.result c.args.bytes.now) ≤ 16384 = c.if-front-gt-LONGEST_LINE.false in
    let all : take c.min.result c.args.bytes.now ≡ c.args.bytes.now = take_all c.min.result c.args.bytes.now (omega (arith, c.min.ensures, short, length-take c.min.result c.args.bytes.now)) in
    (omega (arith, c.min.ensures, short, length-take c.min.result c.args.bytes.now), rw all at none)
