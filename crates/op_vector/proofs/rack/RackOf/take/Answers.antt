use Rattle.std.proofs.Common.{◌≡◌, subst, sym}
use Rattle.std.specs.Option.{IfSome}
use Rattle.std.proofs.lemmas.List.Elements.{All-pop}
use Rattle.op_vector.specs.declared.data.VKind.TheVariants.{Mem, Null, Union, Dead}
use Rattle.op_vector.specs.Rack.{IsProperBox}
use Rattle.op_vector.proofs.Lists.{by_lists}
use Rattle.op_vector.proofs.rack.RackOf.take.Goals as goal

pub returns-in-Mem-clause-proper : goal.returns-in-Mem-clause-proper
returns-in-Mem-clause-proper g c p =
    let Q = IsProperBox g.B.Vop.vkind g.B.Vop.routes in
    let split = All-pop (Q Mem) _ _ _ c.take.ensures.taken (p Mem) in
    (by_lists Q _ split.0 (p Null) (p Union) (p Dead), subst (λ kind. IfSome c.take.result (Q kind)) (sym c.in-Mem.is) split.1)

pub returns-in-Null-clause-by_kind : goal.returns-in-Null-clause-by_kind
returns-in-Null-clause-by_kind g c h =
    let split = All-pop (λ b. g.B.Vop.vkind b ≡ Null) _ _ _ c.take-in-Null.ensures.taken h.null in
    (record { mem = h.mem; null = split.0; unions = h.unions; dead = h.dead }, subst (λ kind. IfSome c.take-in-Null.result (λ b. g.B.Vop.vkind b ≡ kind)) (sym c.in-Null.is) split.1)

pub returns-in-Null-clause-proper : goal.returns-in-Null-clause-proper
returns-in-Null-clause-proper g c p =
    let Q = IsProperBox g.B.Vop.vkind g.B.Vop.routes in
    let split = All-pop (Q Null) _ _ _ c.take-in-Null.ensures.taken (p Null) in
    (by_lists Q _ (p Mem) split.0 (p Union) (p Dead), subst (λ kind. IfSome c.take-in-Null.result (Q kind)) (sym c.in-Null.is) split.1)

pub returns-in-Union-clause-by_kind : goal.returns-in-Union-clause-by_kind
returns-in-Union-clause-by_kind g c h =
    let split = All-pop (λ b. g.B.Vop.vkind b ≡ Union) _ _ _ c.take-in-Union.ensures.taken h.unions in
    (record { mem = h.mem; null = h.null; unions = split.0; dead = h.dead }, subst (λ kind. IfSome c.take-in-Union.result (λ b. g.B.Vop.vkind b ≡ kind)) (sym c.in-Union.is) split.1)

pub returns-in-Union-clause-proper : goal.returns-in-Union-clause-proper
returns-in-Union-clause-proper g c p =
    let Q = IsProperBox g.B.Vop.vkind g.B.Vop.routes in
    let split = All-pop (Q Union) _ _ _ c.take-in-Union.ensures.taken (p Union) in
    (by_lists Q _ (p Mem) (p Null) split.0 (p Dead), subst (λ kind. IfSome c.take-in-Union.result (Q kind)) (sym c.in-Union.is) split.1)

pub returns-in-Dead-clause-by_kind : goal.returns-in-Dead-clause-by_kind
returns-in-Dead-clause-by_kind g c h =
    let split = All-pop (λ b. g.B.Vop.vkind b ≡ Dead) _ _ _ c.take-in-Dead.ensures.taken h.dead in
    (record { mem = h.mem; null = h.null; unions = h.unions; dead = split.0 }, subst (λ kind. IfSome c.take-in-Dead.result (λ b. g.B.Vop.vkind b ≡ kind)) (sym c.in-Dead.is) split.1)

pub returns-in-Dead-clause-proper : goal.returns-in-Dead-clause-proper
returns-in-Dead-clause-proper g c p =
    let Q = IsProperBox g.B.Vop.vkind g.B.Vop.routes in
    let split = All-pop (Q Dead) _ _ _ c.take-in-Dead.ensures.taken (p Dead) in
    (by_lists Q _ (p Mem) (p Null) (p Union) split.0, subst (λ kind. IfSome c.take-in-Dead.result (Q kind)) (sym c.in-Dead.is) split.1)
