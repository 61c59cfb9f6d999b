use Rattle.std.proofs.Common.{rules, ◌≡◌, ◌≤◌, ◌+◌, ◌-◌, ℕ, List, ◌++◌, length, take, drop, sym, ap, ◌∙◌, arith, length-take-le, length-drop}
use Rattle.std.proofs.lemmas.List.{take-append-drop, take_all}
use Rattle.std.proofs.Math.Seq.{take-append-add}
use Rattle.std.proofs.KnownBytes.{Appends-trans, Appends-kept}
use Rattle.seed_io.proofs.streams.write_front.Goals as goal
use Rattle.seed_io.proofs.streams.write_front.Goals.{in-Ok, in-Err}

-- a front, and the piece that was taken behind it
front_grown : (d n : ℕ) (bs : List ℕ) → d ≤ length bs → take (d + n) bs ≡ take d bs ++ take n (take (length bs - d) (drop d bs))
front_grown d n bs within =
    ap (λ (l : List ℕ). take (d + n) l) (sym (take-append-drop d bs))
    ∙ ap (λ (k : ℕ). take (k + n) (take d bs ++ drop d bs)) (sym (length-take-le d bs within))
    ∙ take-append-add (take d bs) (drop d bs) n
    ∙ ap (λ (l : List ℕ). take d bs ++ take n l) (sym (take_all (length bs - d) (drop d bs) (omega (arith, length-drop d bs))))

pub loop-turn-preserved : goal.loop-turn-preserved
loop-turn-preserved g c =
    let before = c.loop-turn.invariant in
    elim c.match-write.branch [
      | in-Ok w ↦ record {
        within = rw w.taken-is (search rules);
        front = rw (w.taken-is, front_grown c.loop-turn.taken w.in-Ok.count c.args.bytes.now before.within) (Appends-trans _ _ _ _ _ before.front w.in-Ok.ensures.bytes);
      }
      | in-Err w ↦ record {
        within = rw w.taken-is before.within;
        front = rw w.taken-is (Appends-kept _ _ _ _ before.front w.in-Err.ensures.bytes);
      }
    ]
