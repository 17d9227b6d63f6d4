-- Parts of a call, one after the other.
use Rattle.std.proofs.Common.{◌≡◌, ℕ, Bool, true, false, refl, ap, sym, subst}
use Rattle.std.specs.Prelude.{Result, Ok, Err}
use Rattle.vfs_tree.specs.Steps.{◌>>=◌, ◌>>◌, refuse_if}
use Rattle.vfs_tree.specs.declared.walk.Step.TheVariants.{Go, Wants}
use Rattle.vfs_tree.specs.declared.errno.Errno.TheVariants as errno
use Rattle.vfs_tree.specs.declared.world.World.{World}
use Rattle.call_model.specs.Checks.{Doing, Outcome, is_full, upper_store, need_node}
use Rattle.call_model.specs.declared.entry.Inner.{Inner}
use Rattle.call_model.specs.declared.reply.Reply.{Reply}
use Rattle.plain_checks.specs.declared.answer.Answer.{Answer}
use Rattle.plain_checks.specs.Coming.{Stops, Comes, stop_for, Answers, Edits, Replies}
use Rattle.plain_checks.specs.declared.stop.Stop.{Stop}
use Rattle.plain_checks.specs.declared.stop.Stop.TheVariants as stop

-- where the first goes no further, neither does the whole
pub stops : {A B : Type 0} (s : Doing A) (f : A → Doing B) (why : Stop) → Stops s why → Stops (s >>= f) why
stops s f (stop.Refused e) h = ap (λ x. x >>= f) h
stops s f (stop.Needs x) h = ap (λ y. y >>= f) h
stops s f stop.NoMemory h = tt

-- want of memory may always come
pub lacks : {A : Type 0} (s : Doing A) (why : Stop) → why ≡ stop.NoMemory → Stops s why
lacks s why e = subst (λ x. Stops s x) (sym e) tt

-- where the first goes on, the whole is the rest
pub goes : {A B : Type 0} (s : Doing A) (f : A → Doing B) (a : A) (r : Result B Stop) → s ≡ Go a → Comes (f a) r → Comes (s >>= f) r
goes s f a r e h = subst (λ x. Comes (x >>= f) r) (sym e) h

-- an inner entry that makes a node
need_case : (A : Type 0) (b : Bool) (x : Inner) → Stops {A = A} (refuse_if b errno.ENOSPC >> Wants x) (stop_for b x)
need_case A true x = refl
need_case A false x = refl

pub needs : (A : Type 0) (w : World) (m : ℕ) (x : Inner) → Stops {A = A} (need_node w m x) (stop_for (is_full w (upper_store w m)) x)
needs A w m x = need_case A (is_full w (upper_store w m)) x

-- ---- with the world

-- where the first goes no further, the world is as it was
pub stops_answer : {A : Type 0} (s : Doing A) (f : A → Outcome) (old new : World) (why : Stop) → Stops s why → new ≡ old → Answers (s >>= f) old new (Err why)
stops_answer s f old new why h same = (stops s f why h, same)

-- where it goes on, the whole is the rest
pub goes_answer : {A : Type 0} (s : Doing A) (f : A → Outcome) (a : A) (old new : World) (r : Result Answer Stop) → s ≡ Go a → Answers (f a) old new r → Answers (s >>= f) old new r
goes_answer s f a old new r e h = subst (λ x. Answers (x >>= f) old new r) (sym e) h

-- where an edit isn't made, the world is as it was
pub stops_edit : (A : Type 0) (s : Doing World) (f : World → Outcome) (old new : World) (why : Stop) → Edits {A = A} s old new (Err why) → Answers (s >>= f) old new (Err why)
stops_edit A s f old new why h = (stops s f why h.0, h.1)

-- where it is, the whole is the reply
pub goes_edit : {A : Type 0} (s : Doing World) (f : World → Outcome) (old new : World) (i : A) (a : Answer) → Edits s old new (Ok i) → f new ≡ Go (new, a.reply) → Answers (s >>= f) old new (Ok a)
goes_edit s f old new i a h r = subst (λ x. Answers (x >>= f) old new (Ok a)) (sym h) r

-- a call that changes nothing ends with the reply that a part of it makes
pub replies : (s : Doing Reply) (w : World) (r : Result Answer Stop) → Replies s r → Answers (s >>= (λ known. Go (w, known))) w w r
replies s w (Ok a) h = ap (λ x. x >>= (λ known. Go (w, known))) h
replies s w (Err why) h = (stops s _ why h, refl)

-- memory that is found is no step of the model
pub kept_answer : (s : Outcome) (old new : World) (why : Stop) → why ≡ stop.NoMemory → new ≡ old → Answers s old new (Err why)
kept_answer s old new why e same = (lacks s why e, same)
