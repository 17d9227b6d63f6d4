use Rattle.std.proofs.Common.{refl, arith}
use Rattle.open_files.proofs.Calls.{full, not_full, all_open, not_all, lowest, opened_opens, opened_seated, opened_slot}
use Rattle.open_files.proofs.table.OpenTable.open.Goals as goal

pub returns-in_default-clause-caller_full : goal.returns-in_default-clause-caller_full
returns-in_default-clause-caller_full c = (λ _. full _ _ _ _ _ c.self.invariant.0 c.self.view_is _ _ c.as_slice.ensures.value c.requires.from c.in_default.ensures.none, λ _. refl)

pub returns-in_default-clause-all_full : goal.returns-in_default-clause-all_full
returns-in_default-clause-all_full c = (λ e. cc, λ h. absurd (h.0 (full _ _ _ _ _ c.self.invariant.0 c.self.view_is _ _ c.as_slice.ensures.value c.requires.from c.in_default.ensures.none)))

pub returns-in_default-pop-clause-caller_full : goal.returns-in_default-pop-clause-caller_full
returns-in_default-pop-clause-caller_full c = (λ e. cc, λ h. absurd (not_full _ _ _ _ _ c.self.invariant.0 c.self.view_is _ _ _ c.as_slice.ensures.value c.requires.from c.in-Some.ensures.within c.in-Some.ensures.free h))

pub returns-in_default-pop-clause-all_full : goal.returns-in_default-pop-clause-all_full
returns-in_default-pop-clause-all_full c =
    let none = c.in_default-pop.ensures.cases in
    let ok = c.self.inside.free.ok in
    (λ _. (not_full _ _ _ _ _ c.self.invariant.0 c.self.view_is _ _ _ c.as_slice.ensures.value c.requires.from c.in-Some.ensures.within c.in-Some.ensures.free, all_open _ _ _ _ _ c.self.invariant.0 c.self.view_is (omega arith)), λ _. refl)

pub invariant_of-self-2 : goal.invariant_of-self-2
invariant_of-self-2 c = (
  rw c.place_of.ensures (opened_seated _ _ _ _ _ c.self.invariant.0 c.self.view_is _ _ _ _ _ _ c.in-Some-pop.ensures.items c.as_slice.ensures.value c.requires.from c.requires.to c.in-Some.ensures.within c.in-Some.ensures.free),
  rw c.pop.ensures.capacity c.self.invariant.1,
)

pub returns-clause-caller_full : goal.returns-clause-caller_full
returns-clause-caller_full c = (λ e. cc, λ h. absurd (not_full _ _ _ _ _ c.self.invariant.0 c.self.view_is _ _ _ c.as_slice.ensures.value c.requires.from c.in-Some.ensures.within c.in-Some.ensures.free h))

pub returns-clause-all_full : goal.returns-clause-all_full
returns-clause-all_full c = (λ e. cc, λ h. absurd (not_all _ _ _ _ _ c.self.invariant.0 c.self.view_is _ _ c.in-Some-pop.ensures.items h.1))

pub returns-clause-lowest : goal.returns-clause-lowest
returns-clause-lowest c = lowest _ _ _ _ _ c.self.invariant.0 c.self.view_is _ _ _ c.as_slice.ensures.value c.requires.from c.in-Some.ensures.within c.in-Some.ensures.free c.in-Some.ensures.lower

pub returns-clause-opens : goal.returns-clause-opens
returns-clause-opens c = rw c.place_of.ensures (opened_opens _ _ _ _ _ c.self.invariant.0 c.self.view_is _ _ _ _ _ _ c.in-Some-pop.ensures.items c.as_slice.ensures.value c.requires.from c.requires.to c.in-Some.ensures.within c.in-Some.ensures.free)

pub returns-clause-slot : goal.returns-clause-slot
returns-clause-slot c = rw c.place_of.ensures (opened_slot _ _ _ _ _ c.self.invariant.0 c.self.view_is _ _ _ _ _ _ c.in-Some-pop.ensures.items c.as_slice.ensures.value c.requires.from c.requires.to c.in-Some.ensures.within c.in-Some.ensures.free)
