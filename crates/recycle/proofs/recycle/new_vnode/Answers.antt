use Rattle.std.proofs.Common.{ℕ, ◌≡◌, ◌∙◌, true, false, subst, sym, refl, List, Option, Some}
use Rattle.vnode_rec.specs.Identity.{identity}
use Rattle.vnode_rec.specs.Vnodes.{HasNone, identity_at}
use Rattle.vnode_rec.proofs.Growth.{grows_same}
use Rattle.recycle.proofs.Recycled.{filled_data, grows_on, there_is_one}
use Rattle.recycle.proofs.recycle.new_vnode.Goals as goal

pub fill-requires-clause-absent : goal.fill-requires-clause-absent
fill-requires-clause-absent g c =
    c.claim.ensures.absent (identity c.args.vd c.in_ok-name.name)
    (subst (λ (n : Option (List ℕ)). HasNone (identity c.args.vd n) c.args.table.now) (sym c.in_ok-name.ensures.copied) c.requires.absent)

pub returns-in_err-name-clause-always : goal.returns-in_err-name-clause-always
returns-in_err-name-clause-always g c = λ none low. (let z : false ≡ true = c.in_err-name.ensures.always none in cc)

pub returns-in_err-name-clause-grows : goal.returns-in_err-name-clause-grows
returns-in_err-name-clause-grows g c = grows_same c.args.table.now

pub returns-in_default : goal.returns-in_default
returns-in_default g c = record {
  matched = c.claim.ensures.matched;
  always = λ none low. absurd (there_is_one c.args.table.now (c.in_default.ensures.none.0 refl) c.requires.room c.keeps_one.ensures low);
  err = c.in_default.ensures.kept;
  found = tt;
  vdata = tt;
  current = tt;
  fresh = tt;
  grows = c.claim.ensures.grows;
  rows = c.claim.ensures.rows;
  uses = c.claim.ensures.uses;
}

pub returns : goal.returns
returns g c = record {
  matched = c.fill.ensures.matched;
  always = λ none low. refl;
  err = tt;
  found = subst (λ (n : Option (List ℕ)). identity_at c.fill.new.self c.fill.result ≡ Some (identity c.args.vd n)) c.in_ok-name.ensures.copied c.fill.ensures.found;
  vdata = filled_data g.B.Vop.vkind _ c.args.vd c.in_ok-name.name c.fill.result c.claim.new.self c.fill.new.self c.fill.ensures.filled;
  current = c.fill.ensures.current;
  fresh = λ w. c.fill.ensures.fresh (c.claim.ensures.grows.given c.fill.result w);
  grows = grows_on c.args.table.now c.claim.new.self c.fill.new.self c.claim.ensures.rows c.claim.ensures.grows c.fill.ensures.grows;
  rows = c.fill.ensures.rows ∙ c.claim.ensures.rows;
  uses = c.fill.ensures.uses ∙ c.claim.ensures.uses;
}
