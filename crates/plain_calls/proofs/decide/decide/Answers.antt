use Rattle.std.proofs.Common.{sym, subst}
use Rattle.call_model.specs.NameRows as names
use Rattle.call_model.specs.Rows.{decided}
use Rattle.plain_checks.specs.Coming.{Answers}
use Rattle.plain_calls.specs.Answering.{HasRoomFor, NeedsNoMemory}
use Rattle.plain_calls.proofs.Deciding.{has_memory}
use Rattle.plain_calls.proofs.decide.decide.Goals as goal

pub returns-in-Open-clause-answered : goal.returns-in-Open-clause-answered
returns-in-Open-clause-answered c =
    subst (λ k. Answers (decided c.args.world.now c.args.caller k c.args.first c.args.second) c.args.world.now c.open.new.world c.open.result) (sym c.in-Open.is) c.open.ensures.answered

pub returns-in-Symlink-clause-answered : goal.returns-in-Symlink-clause-answered
returns-in-Symlink-clause-answered c =
    let done = subst (λ t. Answers (names.symlink c.args.world.now t c.args.first) c.args.world.now c.symlink.new.world c.symlink.result) c.as_slice-in-Symlink.ensures c.symlink.ensures.answered in
    subst (λ k. Answers (decided c.args.world.now c.args.caller k c.args.first c.args.second) c.args.world.now c.symlink.new.world c.symlink.result) (sym c.in-Symlink.is) done

pub returns-in-Open-clause-reserved : goal.returns-in-Open-clause-reserved
returns-in-Open-clause-reserved c = λ none. absurd (subst NeedsNoMemory c.in-Open.is none)

pub returns-in-Symlink-clause-reserved : goal.returns-in-Symlink-clause-reserved
returns-in-Symlink-clause-reserved c = λ none. absurd (subst NeedsNoMemory c.in-Symlink.is none)

pub read-requires-clause-room : goal.read-requires-clause-room
read-requires-clause-room c = subst (λ k. HasRoomFor k c.args.room) c.in-Read.is c.requires.room

pub pread-requires : goal.pread-requires
pread-requires c = subst (λ k. HasRoomFor k c.args.room) c.in-Pread.is c.requires.room

pub returns-in-Close-clause-reserved : goal.returns-in-Close-clause-reserved
returns-in-Close-clause-reserved c = λ _. has_memory c.close.result c.close.ensures.sure

pub returns-in-Lseek-clause-reserved : goal.returns-in-Lseek-clause-reserved
returns-in-Lseek-clause-reserved c = λ _. has_memory c.lseek.result c.lseek.ensures.sure

pub returns-in-Fstat-clause-reserved : goal.returns-in-Fstat-clause-reserved
returns-in-Fstat-clause-reserved c = λ _. has_memory c.fstat.result c.fstat.ensures.sure
