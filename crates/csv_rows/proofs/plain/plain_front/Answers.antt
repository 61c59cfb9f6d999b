use Rattle.csv_rows.proofs.PlainFronts.{front_more, front_within}
use Rattle.csv_rows.proofs.plain.plain_front.Goals as goal

pub returns-then-count-lt8-clause-plain : goal.returns-then-count-lt8-clause-plain
returns-then-count-lt8-clause-plain c =
    let piece = c.plain_bytes-count.ensures in
    front_more c.args.text.now c.eights.place c.plain_bytes-count.result _ c.eights.invariant.plain piece.plain piece.within

pub eights-preserved : goal.eights-preserved
eights-preserved c =
    let piece = c.plain_bytes-count.ensures in
    record {
      within = front_within c.args.text.now c.eights.place c.plain_bytes-count.result _ c.eights.invariant.within piece.within;
      plain = front_more c.args.text.now c.eights.place c.plain_bytes-count.result _ c.eights.invariant.plain piece.plain piece.within;
    }

pub returns-clause-plain : goal.returns-clause-plain
returns-clause-plain c =
    let piece = c.plain_bytes.ensures in
    front_more c.args.text.now c.eights.place c.plain_bytes.result _ c.eights.invariant.plain piece.plain piece.within
