use Rattle.std.proofs.Common.{All, subst, sym, ◌∙◌}
use Rattle.std.proofs.lemmas.List.Elements.{All-push}
use Rattle.op_vector.specs.declared.data.VKind.TheVariants.{Mem, Null, Union, Dead}
use Rattle.op_vector.specs.Rack.{IsProperBox}
use Rattle.op_vector.proofs.Lists.{by_lists}
use Rattle.op_vector.proofs.rack.RackOf.give.Goals as goal

pub returns-in-Mem-clause-proper : goal.returns-in-Mem-clause-proper
returns-in-Mem-clause-proper g c p own =
    let Q = IsProperBox g.B.Vop.vkind g.B.Vop.routes in
    let more : All (Q Mem) c.give.new.self.0 = rw c.give.ensures.boxes (All-push (Q Mem) _ _ (p Mem) (subst (λ kind. Q kind c.args.b) (sym c.kind.ensures ∙ c.in-Mem.is) own)) in
    by_lists Q _ more (p Null) (p Union) (p Dead)

pub returns-in-Null-clause-proper : goal.returns-in-Null-clause-proper
returns-in-Null-clause-proper g c p own =
    let Q = IsProperBox g.B.Vop.vkind g.B.Vop.routes in
    let more : All (Q Null) c.give-in-Null.new.self.0 = rw c.give-in-Null.ensures.boxes (All-push (Q Null) _ _ (p Null) (subst (λ kind. Q kind c.args.b) (sym c.kind.ensures ∙ c.in-Null.is) own)) in
    by_lists Q _ (p Mem) more (p Union) (p Dead)

pub returns-in-Union-clause-proper : goal.returns-in-Union-clause-proper
returns-in-Union-clause-proper g c p own =
    let Q = IsProperBox g.B.Vop.vkind g.B.Vop.routes in
    let more : All (Q Union) c.give-in-Union.new.self.0 = rw c.give-in-Union.ensures.boxes (All-push (Q Union) _ _ (p Union) (subst (λ kind. Q kind c.args.b) (sym c.kind.ensures ∙ c.in-Union.is) own)) in
    by_lists Q _ (p Mem) (p Null) more (p Dead)

pub returns-in-Dead-clause-proper : goal.returns-in-Dead-clause-proper
returns-in-Dead-clause-proper g c p own =
    let Q = IsProperBox g.B.Vop.vkind g.B.Vop.routes in
    let more : All (Q Dead) c.give-in-Dead.new.self.0 = rw c.give-in-Dead.ensures.boxes (All-push (Q Dead) _ _ (p Dead) (subst (λ kind. Q kind c.args.b) (sym c.kind.ensures ∙ c.in-Dead.is) own)) in
    by_lists Q _ (p Mem) (p Null) (p Union) more
