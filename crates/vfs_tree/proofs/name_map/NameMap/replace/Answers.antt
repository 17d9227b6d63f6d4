use Rattle.std.proofs.Common.{ap, sym, ◌∙◌, subst, Some}
use Rattle.std.specs.Prelude.{IsSome, is_some}
use Rattle.std.specs.FinMap as map
use Rattle.std.specs.Cmp.Lexicographic.{nat_list_cmp_total}
use Rattle.std.proofs.lemmas.Map.Lookups.{exact_bytes}
use Rattle.finite_maps.proofs.EntryLaws.{get_given, insert_given}
use Rattle.vfs_tree.proofs.name_map.NameMap.replace.Goals as goal

pub unreachable-requires : goal.unreachable-requires
unreachable-requires g c =
    let none = c.in-None.ensures.value ∙ sym (get_given nat_list_cmp_total c.self.inside.tree.entries c.args.key.now) ∙ ap (λ m. map.get m c.args.key.now) c.self.view_is in
    absurd (let clash = ap is_some none ∙ c.requires in cc)

pub returns-clause-before : goal.returns-clause-before
returns-clause-before g c =
    ap Some c.replace.ensures.value ∙ c.in-Some.ensures.value ∙ sym (get_given nat_list_cmp_total c.self.inside.tree.entries c.args.key.now) ∙ ap (λ m. map.get m c.args.key.now) c.self.view_is

pub returns-clause-replaced : goal.returns-clause-replaced
returns-clause-replaced g c =
    let m = c.self.inside.tree.entries in
    let same = sym (get_given nat_list_cmp_total m c.args.key.now) ∙ ap (λ x. map.get x c.args.key.now) c.self.view_is in
    let w = c.replace.new.dest in
    insert_given nat_list_cmp_total exact_bytes m (c.get_mut.follows.lender w).entries c.args.key.now w ((c.get_mut.follows.holds w).3 (subst IsSome (sym same) c.requires)).0
    ∙ ap (λ x. map.insert x c.args.key.now w) c.self.view_is ∙ ap (λ v. map.insert c.args.self.now c.args.key.now v) c.replace.ensures.after
