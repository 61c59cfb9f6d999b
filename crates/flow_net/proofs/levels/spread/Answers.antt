use Rattle.std.proofs.Common.{inl, inr, ◌≡◌, ◌<◌, subst, arith, length}
use Rattle.std.proofs.lemmas.Bool.{cases_lt}
use Rattle.std.proofs.lemmas.List.{get_or_default}
use Rattle.flow_net.specs.Links.{link_at}
use Rattle.flow_net.specs.Levels.{IsReached, LeadsFar, unreached}
use Rattle.flow_net.proofs.Queue.{IsCrossed, crossed_new, crossed_not, leads_on, leads_within, reached_kept, spreads_more}
use Rattle.flow_net.proofs.levels.spread.Goals as goal
use Rattle.flow_net.proofs.levels.spread.Goals.{Joined-levels-link, then-levels-link+then-sought-left, else-levels-link, else-levels-link-via-then-levels-link+else-sought-left, else-levels-link-via-else-levels-link}

-- the link of this turn is crossed
abbrev Crosses : Joined-levels-link → Type 0
Crosses c =
    IsCrossed (length c.args.levels.now) c.args.pipes.now c.args.sought.now.filling.now.amounts c.args.sought.now.power c.args.sought.now.backward
    (link_at c.args.row.now c.loop-link.link-index) c.args.level
    c.loop-link.levels c.if-levels-link.levels c.loop-link.queue c.if-levels-link.queue c.loop-link.filled c.if-levels-link.filled

crossed : (c : Joined-levels-link) → Crosses c
crossed c =
    let n = length c.args.levels.now in
    let pipes = c.args.pipes.now in
    let xs = c.args.sought.now.filling.now.amounts in
    let power = c.args.sought.now.power in
    let backward = c.args.sought.now.backward in
    let link = link_at c.args.row.now c.loop-link.link-index in
    let old = c.loop-link in
    let known : link.far < n = (c.requires.links old.link-index c.loop-link-test.true).1 in
    let within : link.far < length old.levels = omega (arith, known, old.auto.levels) in
    elim c.if-levels-link.branch [
      | then-levels-link+then-sought-left w ↦
          rw (w.levels-is, w.queue-is, w.filled-is)
          (crossed_new n pipes xs power backward link c.args.level old.levels old.queue old.filled old.auto.levels (omega (arith, old.auto.queue, c.requires.each)) c.requires.few known
          (omega (arith, c.requires.level, old.invariant.spreads.grows)) old.invariant.queue w.if-levels-link.true
          (leads_on pipes xs power backward link w.left.result w.left.ensures w.if-sought-left.true))
      | else-levels-link w ↦
          rw (w.levels-is, w.queue-is, w.filled-is)
          (crossed_not n pipes xs power backward link c.args.level old.levels old.queue old.filled old.invariant.queue
          (elim w.else-levels-link.branch as (λ _. LeadsFar pipes xs power backward link → IsReached old.levels link.far) [
            | else-levels-link-via-then-levels-link+else-sought-left w' ↦
                λ leads. absurd (omega (arith, leads_within pipes xs power backward link w'.left.result w'.left.ensures leads, w'.if-sought-left.false))
            | else-levels-link-via-else-levels-link w' ↦
                λ _. omega (arith, get_or_default old.levels link.far unreached 0 within, w'.if-levels-link.false)
          ]))
    ]

pub loop-link-preserved : goal.loop-link-preserved
loop-link-preserved c =
    let row = c.args.row.now in
    let i = c.loop-link.link-index in
    let e = crossed (goal.at.loop-link-preserved c).Joined-levels-link in
    let xs = c.args.sought.now.filling.now.amounts in
    record {
      queue = e.queue;
      spreads =
          spreads_more c.args.pipes.now xs c.args.sought.now.power c.args.sought.now.backward row i c.args.level
          c.args.levels.now c.loop-link.levels c.if-levels-link.levels c.args.queue.now c.loop-link.queue c.if-levels-link.queue
          c.args.count c.loop-link.filled c.if-levels-link.filled c.loop-link.invariant.spreads e.spreads;
      crossed =
          λ k h leads.
          elim (cases_lt k i) as (λ _. IsReached c.if-levels-link.levels (link_at row k).far) [
            | inl old ↦
                let was = c.loop-link.invariant.crossed k old leads in
                reached_kept c.loop-link.levels c.if-levels-link.levels (link_at row k).far (e.spreads.kept (link_at row k).far was) was
            | inr now ↦
                let same : i ≡ k = omega arith in
                subst (λ n. LeadsFar c.args.pipes.now xs c.args.sought.now.power c.args.sought.now.backward (link_at row n) → IsReached c.if-levels-link.levels (link_at row n).far) same e.crossed leads
          ];
    }
