use Rattle.std.proofs.Common.{◌+◌, ◌-◌, Option, List, ℕ, length, take, drop, arith, length-drop}
use Rattle.std.specs.Io.KnownBytes.{Appends}
use Rattle.std.proofs.KnownBytes.{Appends-trans}
use Rattle.std.proofs.lemmas.List.{take_rest}
use Rattle.std.proofs.Math.Seq.{take-add}
use Rattle.vfs_flow.proofs.whole.write_all.Goals as goal

-- a front of a text, and then a front of the rest
wrote_on : (a b c : Option (List ℕ)) (i n : ℕ) (text : List ℕ) → Appends a b (take i text) → Appends b c (take n (take (length text - i) (drop i text))) → Appends a c (take (i + n) text)
wrote_on a b c i n text p q = rw take-add (Appends-trans a b c (take i text) (take n (drop i text)) p (rw take_rest at q))

pub loop-at-preserved : goal.loop-at-preserved
loop-at-preserved g c =
    let written = g.K.Sink.written in
    record {
      within = omega (arith, length-drop c.loop-at.at c.args.text.now, c.in-Some.ensures.bytes.within);
      put = wrote_on (written c.args.sink.now) (written c.loop-at.sink) (written c.write.new.self) c.loop-at.at c.in-Some.n c.args.text.now c.loop-at.invariant.put c.in-Some.ensures.bytes.front;
      later = omega (arith, c.loop-at.invariant.later, c.in-Some.ensures.never_falls);
    }
