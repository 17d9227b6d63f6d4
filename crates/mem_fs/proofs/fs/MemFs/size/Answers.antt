use Rattle.std.proofs.Common.{ℕ, ◌≤◌, ap, sym, subst, ◌∙◌, length}
use Rattle.std.specs.Prelude.{Option, Some, None, IfSome}
use Rattle.mem_fs.specs.FileSystem.{bytes_in}
use Rattle.mem_fs.proofs.Looks.{looked, looked_reserved, room_seen}
use Rattle.mem_fs.proofs.fs.MemFs.size.Goals as goal

pub returns-in-Some-clause-size : goal.returns-in-Some-clause-size
returns-in-Some-clause-size c = c.size.ensures.size ∙ sym (ap (λ o. length (bytes_in o)) (looked c.self.inside.nodes c.self.inside.next c.args.self.now c.args.ino (Some _) c.self.view_is c.in-Some.ensures))

pub returns-in-Some-clause-room : goal.returns-in-Some-clause-room
returns-in-Some-clause-room c = room_seen c.self.inside.nodes c.self.inside.next c.args.self.now c.args.ino c.self.view_is

pub returns-in-Some-clause-within : goal.returns-in-Some-clause-within
returns-in-Some-clause-within c = subst (λ (o : Option ℕ). IfSome o (λ room. c.size.result ≤ room))
    (sym (looked_reserved c.self.inside.nodes c.self.inside.next c.args.self.now c.args.ino (Some _) c.self.view_is c.in-Some.ensures)) c.size.ensures.within

pub returns-in-Some-clause-small : goal.returns-in-Some-clause-small
returns-in-Some-clause-small c = subst (λ (o : Option ℕ). IfSome o (λ room. room ≤ 1048576))
    (sym (looked_reserved c.self.inside.nodes c.self.inside.next c.args.self.now c.args.ino (Some _) c.self.view_is c.in-Some.ensures)) c.size.ensures.small

pub returns-in-None-clause-size : goal.returns-in-None-clause-size
returns-in-None-clause-size c = sym (ap (λ o. length (bytes_in o)) (looked c.self.inside.nodes c.self.inside.next c.args.self.now c.args.ino None c.self.view_is c.in-None.ensures))

pub returns-in-None-clause-room : goal.returns-in-None-clause-room
returns-in-None-clause-room c = room_seen c.self.inside.nodes c.self.inside.next c.args.self.now c.args.ino c.self.view_is

pub returns-in-None-clause-within : goal.returns-in-None-clause-within
returns-in-None-clause-within c = subst (λ (o : Option ℕ). IfSome o (λ room. 0 ≤ room))
    (sym (looked_reserved c.self.inside.nodes c.self.inside.next c.args.self.now c.args.ino None c.self.view_is c.in-None.ensures)) tt

pub returns-in-None-clause-small : goal.returns-in-None-clause-small
returns-in-None-clause-small c = subst (λ (o : Option ℕ). IfSome o (λ room. room ≤ 1048576))
    (sym (looked_reserved c.self.inside.nodes c.self.inside.next c.args.self.now c.args.ino None c.self.view_is c.in-None.ensures)) tt
