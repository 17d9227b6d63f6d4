use Rattle.std.proofs.Common.{ap, sym, ◌∙◌, arith}
use Rattle.std.specs.FinMap as map
use Rattle.mem_dir.specs.Records.{joined}
use Rattle.mem_dir.proofs.Last.{rising_popped, if_more, none_more, get_last, map_before, entries_last}
use Rattle.mem_dir.proofs.dir.Dir.pop_last.Goals as goal

pub invariant_of-self : goal.invariant_of-self
invariant_of-self c = record {
  rising = rising_popped (joined c.self.inside.blocks.items) (joined c.pop_last.new.blocks.items) c.pop_last.result c.self.invariant.rising c.pop_last.ensures.last (none_more c.pop_last.result c.pop_last.ensures.unchanged (ap joined));
  filled = c.pop_last.ensures.filled;
  empty = c.self.invariant.empty;
  one = c.self.invariant.one;
  at_hand = c.self.invariant.at_hand;
  list_room = λ some. let before = c.self.invariant.list_room some in omega (arith, c.pop_last.ensures.len, c.pop_last.ensures.capacity);
}

pub returns-clause-last : goal.returns-clause-last
returns-clause-last c = if_more c.pop_last.result c.pop_last.ensures.last (λ r is.
    ap (λ d. map.entries d.names) (sym c.self.view_is) ∙ entries_last (joined c.self.inside.blocks.items) (joined c.pop_last.new.blocks.items) r c.self.invariant.rising is)

pub returns-clause-some : goal.returns-clause-some
returns-clause-some c = if_more c.pop_last.result c.pop_last.ensures.last (λ r is.
    ap (λ d. map.get d.names r.0) (sym c.self.view_is) ∙ get_last (joined c.self.inside.blocks.items) (joined c.pop_last.new.blocks.items) r c.self.invariant.rising is)

pub returns-clause-names : goal.returns-clause-names
returns-clause-names c = if_more c.pop_last.result c.pop_last.ensures.last (λ r is.
    map_before (joined c.self.inside.blocks.items) (joined c.pop_last.new.blocks.items) r c.self.invariant.rising is ∙ ap (λ d. map.remove d.names r.0) c.self.view_is)
