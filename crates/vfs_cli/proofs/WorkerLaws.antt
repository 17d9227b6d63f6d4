-- Workers are hired, work, and are gathered.
use Rattle.std.proofs.Common.{◌≡◌, ◌≢◌, ℕ, ◌+◌, ◌-◌, ◌<◌, ◌≤◌, ◌==◌, true, false, cond, List, [], ◌∷◌, ◌++◌, length, get_or, take, drop, refl, sym, ap, subst, ◌∙◌, arith, inl, inr, append_assoc, append-nil}
use Rattle.std.specs.Prelude.{Option, Some, None, unwrap_or, nat_eq, All}
use Rattle.std.specs.Option.{option_or}
use Rattle.std.proofs.lemmas.Bool.Decides.{eqb_tells}
use Rattle.std.proofs.lemmas.List.{get_or_append_left, get_or_push, length_push, length-append, drop_all, take_all}
use Rattle.call_model.specs.Legal.{calls_of}
use Rattle.call_model.specs.declared.call.Call.{Call}
use Rattle.call_model.specs.declared.entry.Entry.{Entry}
use Rattle.call_model.specs.declared.reply.Reply.{Reply}
use Rattle.vfs_core.specs.Seats.{Sharing, Seating, IsSeatOf, Called, made, own_calls}
use Rattle.vfs_cli.specs.Workers.{IsUpTo, plan_at, Worked, IsWorker, AreWorkers, IsFresh, HasGathered}
use Rattle.vfs_cli.specs.declared.worker.Worker.{Worker}

-- ---- numbers

-- two numbers are the same, or not
by_number : (P : Type 0) (a b : ℕ) → ((a == b) ≡ true → a ≡ b → P) → ((a == b) ≡ false → a ≢ b → P) → P
by_number P a b same apart = elim (eqb_tells a b) [ inl e ↦ same e.0 e.1 | inr e ↦ apart e.0 e.1 ]

same_test : (a : ℕ) → (a == a) ≡ true
same_test a = by_number ((a == a) ≡ true) a a (λ t _. t) (λ _ ne. absurd (ne refl))

apart_test : (a b : ℕ) → a ≢ b → (a == b) ≡ false
apart_test a b ne = by_number ((a == b) ≡ false) a b (λ _ e. absurd (ne e)) (λ f _. f)

up_less : (n m c : ℕ) → n + 1 ≡ m → IsUpTo m c → c ≢ m → IsUpTo n c
up_less n m c next up ne = record { first = up.first; last = let l = up.last in omega arith }

up_more : (n m c : ℕ) → n + 1 ≡ m → IsUpTo n c → IsUpTo m c
up_more n m c next up = record { first = up.first; last = let l = up.last in omega arith }

-- ---- a worker works

-- a worker that has made no call
pub worked_none : (vfs : Sharing) (w : Worker) → IsSeatOf vfs w.seat → Worked vfs w w
worked_none vfs w own = record {
  own = own;
  caller = refl;
  more = [];
  rest = refl;
  adds = λ before has. has ∙ ap Some (sym (append-nil before));
  others = λ n ne. refl;
}

-- and makes one more
pub worked_one : (vfs : Sharing) (old mid new : Worker) (call : Call) (reply : Reply) → Worked vfs old mid → mid.left ≡ call ∷ new.left → IsSeatOf vfs new.seat → new.seat.caller ≡ mid.seat.caller
    → Called vfs.limits mid.seat new.seat call reply → Worked vfs old new
worked_one vfs old mid new call reply worked next own caller called = record {
  own = own;
  caller = caller ∙ worked.caller;
  more = worked.more ++ call ∷ [];
  rest = worked.rest ∙ ap (λ (t : List Call). worked.more ++ t) next ∙ sym (append_assoc worked.more (call ∷ []) new.left);
  adds = λ before has.
      let mine : own_calls mid.seat ≡ before ++ worked.more = ap (λ (n : ℕ). unwrap_or (made n mid.seat) []) worked.caller ∙ ap (λ (o : Option (List Call)). unwrap_or o []) (worked.adds before has) in
      ap (λ (n : ℕ). made n new.seat) (sym worked.caller) ∙ called.one
      ∙ ap (λ (t : List Call). Some (t ++ call ∷ [])) mine ∙ ap Some (append_assoc before worked.more (call ∷ []));
  others = λ n ne. called.others n (λ e. ne (e ∙ worked.caller)) ∙ worked.others n ne;
}

-- a call that came back leaves all as it was
pub worked_back : (vfs : Sharing) (old mid new : Worker) → Worked vfs old mid → new.left ≡ mid.left → IsSeatOf vfs new.seat → new.seat.caller ≡ mid.seat.caller
    → ((n : ℕ) → made n new.seat ≡ made n mid.seat) → Worked vfs old new
worked_back vfs old mid new worked same own caller kept = record {
  own = own;
  caller = caller ∙ worked.caller;
  more = worked.more;
  rest = worked.rest ∙ ap (λ (t : List Call). worked.more ++ t) (sym same);
  adds = λ before has. kept old.seat.caller ∙ worked.adds before has;
  others = λ n ne. kept n ∙ worked.others n ne;
}

-- it is a worker of the same caller still
still_worker : (vfs : Sharing) (plans : List (List Call)) (c : ℕ) (old new : Worker) → IsWorker vfs plans c old → Worked vfs old new → IsWorker vfs plans c new
still_worker vfs plans c old new was worked = record {
  own = worked.own;
  caller = worked.caller ∙ was.caller;
  before = was.before ++ worked.more;
  has = ap (λ (n : ℕ). made n new.seat) (sym was.caller) ∙ worked.adds was.before (ap (λ (n : ℕ). made n old.seat) was.caller ∙ was.has);
  calls = append_assoc was.before worked.more new.left ∙ ap (λ (t : List Call). was.before ++ t) (sym worked.rest) ∙ was.calls;
  alone = λ n ne. worked.others n (λ e. ne (e ∙ was.caller)) ∙ was.alone n ne;
}

-- and so are all
pub still_workers : (vfs : Sharing) (plans : List (List Call)) (old new : List Worker) → AreWorkers vfs plans old → length new ≡ length old
    → ((i : ℕ) (d : Worker) → i < length old → Worked vfs (get_or old i d) (get_or new i d)) → AreWorkers vfs plans new
still_workers vfs plans old new are count each i d low =
    let there : i < length old = subst (λ (n : ℕ). i < n) count low in
    still_worker vfs plans (length plans - i) (get_or old i d) (get_or new i d) (are i d there) (each i d there)

-- the seats of workers come from the kernel
pub workers_own : (vfs : Sharing) (plans : List (List Call)) (workers : List Worker) → AreWorkers vfs plans workers → All (λ (w : Worker). IsSeatOf vfs w.seat) workers
workers_own vfs plans workers are i d low = (are i d low).own

-- ---- workers are hired

-- one more worker
push_worker : (vfs : Sharing) (plans : List (List Call)) (workers : List Worker) (c : ℕ) (w : Worker) → AreWorkers vfs plans workers → c + length workers ≡ length plans → IsWorker vfs plans c w
    → AreWorkers vfs plans (workers ++ w ∷ [])
push_worker vfs plans workers c w are place is i d low =
    let long : length (workers ++ w ∷ []) ≡ length workers + 1 = length_push workers w in
    by_number (IsWorker vfs plans (length plans - i) (get_or (workers ++ w ∷ []) i d)) i (length workers)
    (λ _ e.
    let which : c ≡ length plans - i = omega arith in
    subst (IsWorker vfs plans (length plans - i)) (sym (get_or_push workers w d i (sym e))) (subst (λ (n : ℕ). IsWorker vfs plans n w) which is))
    (λ _ ne.
    let there : i < length workers = omega arith in
    subst (IsWorker vfs plans (length plans - i)) (sym (get_or_append_left workers (w ∷ []) d i there)) (are i d there))

-- the last plan that is there is that of the last caller
last_plan : (plans front rest : List (List Call)) (left : List Call) (m : ℕ) → plans ≡ (front ++ left ∷ []) ++ rest → length front + 1 ≡ m → left ≡ plan_at plans m
last_plan plans front rest left m whole long =
    let at : length front ≡ m - 1 = omega arith in
    let size : length (front ++ left ∷ []) ≡ length front + 1 = length_push front left in
    let low : m - 1 < length (front ++ left ∷ []) = omega arith in
    sym (ap (λ (ps : List (List Call)). get_or ps (m - 1) []) whole ∙ get_or_append_left (front ++ left ∷ []) rest [] (m - 1) low ∙ get_or_push front left [] (m - 1) at)

-- the callers whose plans are still there have no worker; the others have one
pub record Hiring (vfs : Sharing) (plans : List (List Call)) (seat : Seating) (now : List (List Call)) (workers : List Worker) : Type 0 where
  pub some : 0 < length now
  pub rest : List (List Call)
  pub whole : plans ≡ now ++ rest
  pub fresh : IsFresh vfs (length now) seat
  pub are : AreWorkers vfs plans workers
  pub count : length workers + length now ≡ length plans

-- nobody has a worker
pub hiring_none : (vfs : Sharing) (plans : List (List Call)) (seat : Seating) (workers : List Worker) → 0 < length plans → IsFresh vfs (length plans) seat → workers ≡ [] → Hiring vfs plans seat plans workers
hiring_none vfs plans seat workers some fresh none = record {
  some = some;
  rest = [];
  whole = sym (append-nil plans);
  fresh = fresh;
  are = subst (AreWorkers vfs plans) (sym none) (λ i d low. let bad : i < 0 = low in absurd (omega arith));
  count = let size : length workers ≡ 0 = ap length none in omega arith;
}

-- the worker of a caller whose number was cut off
split_worker : (vfs : Sharing) (plans : List (List Call)) (m : ℕ) (old seat : Seating) (left : List Call) → 0 < m → IsFresh vfs m old → IsSeatOf vfs seat → seat.caller ≡ m
    → ((c : ℕ) → made c seat ≡ cond (nat_eq c m) (made c old) None) → left ≡ plan_at plans m → IsWorker vfs plans m (record { seat = seat; left = left })
split_worker vfs plans m old seat left some fresh own caller given is = record {
  own = own;
  caller = caller;
  before = [];
  has = given m ∙ ap (λ b. cond b (made m old) None) (same_test m) ∙ fresh.fresh m (record { first = omega arith; last = omega arith });
  calls = is;
  alone = λ c ne. given c ∙ ap (λ b. cond b (made c old) None) (apart_test c m ne);
}

-- what the seat keeps
split_fresh : (vfs : Sharing) (n m : ℕ) (old new : Seating) → n + 1 ≡ m → IsFresh vfs m old → IsSeatOf vfs new → new.caller ≡ old.caller
    → ((c : ℕ) → made c new ≡ cond (nat_eq c m) None (made c old)) → IsFresh vfs n new
split_fresh vfs n m old new next was own caller kept = record {
  own = own;
  caller = caller ∙ was.caller;
  fresh = λ c up.
      let l = up.last in
      kept c ∙ ap (λ b. cond b None (made c old)) (apart_test c m (λ e. omega arith)) ∙ was.fresh c (up_more n m c next up);
  others = λ c other.
      kept c
      ∙ by_number (cond (c == m) None (made c old) ≡ None) c m
      (λ t _. ap (λ b. cond b None (made c old)) t)
      (λ f ne. ap (λ b. cond b None (made c old)) f ∙ was.others c (λ up. other (up_less n m c next up ne)));
}

-- the last caller gets a worker
pub hiring_one : (vfs : Sharing) (plans : List (List Call)) (old new seat : Seating) (now after : List (List Call)) (before workers : List Worker) (left : List Call) → Hiring vfs plans old now before → 1 < length now
    → IsSeatOf vfs new → IsSeatOf vfs seat → new.caller ≡ old.caller → seat.caller ≡ length now
    → ((c : ℕ) → made c new ≡ cond (nat_eq c (length now)) None (made c old)) → ((c : ℕ) → made c seat ≡ cond (nat_eq c (length now)) (made c old) None)
    → now ≡ after ++ left ∷ [] → workers ≡ before ++ record { seat = seat; left = left } ∷ [] → Hiring vfs plans new after workers
hiring_one vfs plans old new seat now after before workers left hiring more own own' caller caller' kept given plan hired =
    let long : length now ≡ length after + 1 = ap length plan ∙ length_push after left in
    let next : length after + 1 ≡ length now = sym long in
    let its : left ≡ plan_at plans (length now) = last_plan plans after hiring.rest left (length now) (hiring.whole ∙ ap (λ (ps : List (List Call)). ps ++ hiring.rest) plan) next in
    let some : 0 < length now = omega arith in
    let worker = split_worker vfs plans (length now) old seat left some hiring.fresh own' caller' given its in
    let count = hiring.count in
    let place : length now + length before ≡ length plans = omega arith in
    let size : length workers ≡ length before + 1 = ap length hired ∙ length_push before (record { seat = seat; left = left }) in
    record {
      some = omega arith;
      rest = left ∷ hiring.rest;
      whole = hiring.whole ∙ ap (λ (ps : List (List Call)). ps ++ hiring.rest) plan ∙ append_assoc after (left ∷ []) hiring.rest;
      fresh = split_fresh vfs (length after) (length now) old new next hiring.fresh own caller kept;
      are = subst (AreWorkers vfs plans) (sym hired) (push_worker vfs plans before (length now) (record { seat = seat; left = left }) hiring.are place worker);
      count = omega arith;
    }

-- caller 1 keeps its seat
first_worker : (vfs : Sharing) (plans : List (List Call)) (seat : Seating) (left : List Call) → IsFresh vfs 1 seat → left ≡ plan_at plans 1 → IsWorker vfs plans 1 (record { seat = seat; left = left })
first_worker vfs plans seat left fresh is = record {
  own = fresh.own;
  caller = fresh.caller;
  before = [];
  has = fresh.fresh 1 (record { first = omega arith; last = omega arith });
  calls = is;
  alone = λ c ne. fresh.others c (λ up. let a = up.first in let b = up.last in ne (omega arith));
}

-- all callers have a worker
pub record Hired (vfs : Sharing) (plans now : List (List Call)) (workers : List Worker) : Type 0 where
  pub count : length workers ≡ length plans
  pub are : AreWorkers vfs plans workers
  pub none : now ≡ []

empty_list : {X : Type 0} (xs : List X) → length xs ≡ 0 → xs ≡ []
empty_list [] e = refl
empty_list (x ∷ xs) e = absurd (omega arith)

pub hired_all : (vfs : Sharing) (plans : List (List Call)) (seat : Seating) (now after : List (List Call)) (before workers : List Worker) (left : List Call) → Hiring vfs plans seat now before → length now ≤ 1
    → now ≡ after ++ left ∷ [] → workers ≡ before ++ record { seat = seat; left = left } ∷ [] → Hired vfs plans after workers
hired_all vfs plans seat now after before workers left hiring few plan hired =
    let some = hiring.some in
    let long : length now ≡ length after + 1 = ap length plan ∙ length_push after left in
    let one : length now ≡ 1 = omega arith in
    let next : length after + 1 ≡ 1 = omega arith in
    let its : left ≡ plan_at plans 1 = last_plan plans after hiring.rest left 1 (hiring.whole ∙ ap (λ (ps : List (List Call)). ps ++ hiring.rest) plan) next in
    let worker = first_worker vfs plans seat left (subst (λ (n : ℕ). IsFresh vfs n seat) one hiring.fresh) its in
    let count = hiring.count in
    let place : 1 + length before ≡ length plans = omega arith in
    let size : length workers ≡ length before + 1 = ap length hired ∙ length_push before (record { seat = seat; left = left }) in
    record {
      count = omega arith;
      are = subst (AreWorkers vfs plans) (sym hired) (push_worker vfs plans before 1 (record { seat = seat; left = left }) hiring.are place worker);
      none = empty_list after (omega arith);
    }

-- ---- workers are gathered

-- the worker at the end of a front of the list
worker_at : (workers front rest : List Worker) (w : Worker) → workers ≡ (front ++ w ∷ []) ++ rest → get_or workers (length front) w ≡ w
worker_at workers front rest w whole =
    let size : length (front ++ w ∷ []) ≡ length front + 1 = length_push front w in
    let low : length front < length (front ++ w ∷ []) = omega arith in
    ap (λ (ws : List Worker). get_or ws (length front) w) whole ∙ get_or_append_left (front ++ w ∷ []) rest w (length front) low ∙ get_or_push front w w (length front) refl

below : (workers front rest : List Worker) (w : Worker) → workers ≡ (front ++ w ∷ []) ++ rest → length front < length workers
below workers front rest w whole =
    let size : length workers ≡ length front + 1 + length rest = ap length whole ∙ length-append (front ++ w ∷ []) rest ∙ ap (λ (n : ℕ). n + length rest) (length_push front w) in
    omega arith

pub owns_last : (vfs : Sharing) (workers front rest : List Worker) (w : Worker) → All (λ (x : Worker). IsSeatOf vfs x.seat) workers → workers ≡ (front ++ w ∷ []) ++ rest → IsSeatOf vfs w.seat
owns_last vfs workers front rest w own whole = subst (λ (x : Worker). IsSeatOf vfs x.seat) (worker_at workers front rest w whole) (own (length front) w (below workers front rest w whole))

last_worker : (vfs : Sharing) (plans : List (List Call)) (workers front rest : List Worker) (w : Worker) (c : ℕ) → AreWorkers vfs plans workers → workers ≡ (front ++ w ∷ []) ++ rest → c + length front ≡ length plans → IsWorker vfs plans c w
last_worker vfs plans workers front rest w c are whole place =
    let which : length plans - length front ≡ c = omega arith in
    subst (λ (n : ℕ). IsWorker vfs plans n w) which
    (subst (IsWorker vfs plans (length plans - length front)) (worker_at workers front rest w whole) (are (length front) w (below workers front rest w whole)))

gathered_first : (vfs : Sharing) (plans : List (List Call)) (w : Worker) → IsWorker vfs plans 1 w → HasGathered vfs plans 1 w.seat (w.left ∷ [])
gathered_first vfs plans w is = record {
  own = is.own;
  count = refl;
  calls = λ c up.
      let a = up.first in
      let b = up.last in
      let one : 1 ≡ c = omega arith in
      subst (λ (n : ℕ). (before : List Call) × (made n w.seat ≡ Some before) × (before ++ plan_at (w.left ∷ []) n ≡ plan_at plans n)) one (is.before, is.has, is.calls);
  others = λ c other. is.alone c (λ e. other (record { first = omega arith; last = omega arith }));
}

gathered_one : (vfs : Sharing) (plans : List (List Call)) (n m : ℕ) (old new : Seating) (left : List (List Call)) (w : Worker) → n + 1 ≡ m → HasGathered vfs plans n old left → IsWorker vfs plans m w → IsSeatOf vfs new
    → ((c : ℕ) → made c new ≡ option_or (made c old) (made c w.seat)) → HasGathered vfs plans m new (left ++ w.left ∷ [])
gathered_one vfs plans n m old new left w next was is own joined =
    let count = was.count in
    record {
      own = own;
      count = length_push left w.left ∙ omega arith;
      calls = λ c up.
          by_number ((before : List Call) × (made c new ≡ Some before) × (before ++ plan_at (left ++ w.left ∷ []) c ≡ plan_at plans c)) c m
          (λ _ e.
          let here : m ≡ c = sym e in
          let none : made c old ≡ None = was.others c (λ u. let l = u.last in omega arith) in
          let has : made c w.seat ≡ Some is.before = ap (λ (k : ℕ). made k w.seat) e ∙ is.has in
          let at : length left ≡ c - 1 = omega arith in (
            is.before,
            joined c ∙ ap (λ (o : Option (List Call)). option_or o (made c w.seat)) none ∙ has,
            ap (λ (t : List Call). is.before ++ t) (get_or_push left w.left [] (c - 1) at) ∙ is.calls ∙ ap (plan_at plans) here,
          ))
          (λ _ ne.
          let before = was.calls c (up_less n m c next up ne) in
          let a = up.first in
          let b = (up_less n m c next up ne).last in
          let low : c - 1 < length left = omega arith in (
            before.0,
            joined c ∙ ap (λ (o : Option (List Call)). option_or o (made c w.seat)) before.1,
            ap (λ (t : List Call). before.0 ++ t) (get_or_append_left left (w.left ∷ []) [] (c - 1) low) ∙ before.2,
          ));
      others = λ c other.
          joined c ∙ ap (λ (o : Option (List Call)). option_or o (made c w.seat)) (was.others c (λ up. other (up_more n m c next up)))
          ∙ is.alone c (λ e. other (record { first = let h = e in omega arith; last = omega arith }));
    }

-- some of the workers are gathered, those at the end of the list
pub record Gathering (vfs : Sharing) (all : List Worker) (seat : Seating) (workers : List Worker) (left : List (List Call)) : Type 0 where
  pub own : IsSeatOf vfs seat
  pub rest : List Worker
  pub whole : all ≡ workers ++ rest
  pub count : length left + length workers ≡ length all
  pub gathered : (plans : List (List Call)) → length plans ≡ length all → AreWorkers vfs plans all → HasGathered vfs plans (length left) seat left

-- the first of them
pub gathering_first : (vfs : Sharing) (all workers : List Worker) (w : Worker) (left : List (List Call)) → All (λ (x : Worker). IsSeatOf vfs x.seat) all → all ≡ workers ++ w ∷ [] → left ≡ w.left ∷ [] → Gathering vfs all w.seat workers left
gathering_first vfs all workers w left own is plan =
    let whole : all ≡ (workers ++ w ∷ []) ++ [] = is ∙ sym (append-nil (workers ++ w ∷ [])) in
    let size : length all ≡ length workers + 1 = ap length is ∙ length_push workers w in
    let one : length left ≡ 1 = ap length plan in
    record {
      own = owns_last vfs all workers [] w own whole;
      rest = w ∷ [];
      whole = is;
      count = omega arith;
      gathered = λ plans long are.
          let place : 1 + length workers ≡ length plans = omega arith in
          let g : HasGathered vfs plans 1 w.seat (w.left ∷ []) = gathered_first vfs plans w (last_worker vfs plans all workers [] w 1 are whole place) in
          subst (λ (ls : List (List Call)). HasGathered vfs plans (length ls) w.seat ls) (sym plan) g;
    }

-- one more
pub gathering_one : (vfs : Sharing) (all before workers : List Worker) (old new : Seating) (w : Worker) (now left : List (List Call)) → Gathering vfs all old before now → before ≡ workers ++ w ∷ [] → IsSeatOf vfs new
    → ((c : ℕ) → made c new ≡ option_or (made c old) (made c w.seat)) → left ≡ now ++ w.left ∷ [] → Gathering vfs all new workers left
gathering_one vfs all before workers old new w now left was is own joined plan =
    let whole : all ≡ (workers ++ w ∷ []) ++ was.rest = was.whole ∙ ap (λ (ws : List Worker). ws ++ was.rest) is in
    let size : length before ≡ length workers + 1 = ap length is ∙ length_push workers w in
    let long : length left ≡ length now + 1 = ap length plan ∙ length_push now w.left in
    let count = was.count in
    record {
      own = own;
      rest = w ∷ was.rest;
      whole = whole ∙ append_assoc workers (w ∷ []) was.rest;
      count = omega arith;
      gathered = λ plans same are.
          let place : length left + length workers ≡ length plans = omega arith in
          let worker = last_worker vfs plans all workers was.rest w (length left) are whole place in
          subst (HasGathered vfs plans (length left) new) (sym plan)
          (gathered_one vfs plans (length now) (length left) old new now w (sym long) (was.gathered plans same are) worker own joined);
    }

-- the popped worker's seat comes from the kernel
pub gathering_own : (vfs : Sharing) (all before workers : List Worker) (seat : Seating) (w : Worker) (now : List (List Call)) → All (λ (x : Worker). IsSeatOf vfs x.seat) all → Gathering vfs all seat before now → before ≡ workers ++ w ∷ [] → IsSeatOf vfs w.seat
gathering_own vfs all before workers seat w now own was is = owns_last vfs all workers was.rest w own (was.whole ∙ ap (λ (ws : List Worker). ws ++ was.rest) is)

-- all are
pub gathered_all : (vfs : Sharing) (all workers : List Worker) (seat : Seating) (left : List (List Call)) (n : ℕ) → Gathering vfs all seat workers left → length workers ≡ 0 → n ≡ length all
    → (plans : List (List Call)) → length plans ≡ n → AreWorkers vfs plans all → HasGathered vfs plans n seat left
gathered_all vfs all workers seat left n was none is plans long are =
    let count = was.count in
    let same : length left ≡ n = omega arith in
    subst (λ (k : ℕ). HasGathered vfs plans k seat left) same (was.gathered plans (long ∙ is) are)

-- ---- after the work

-- a slice that was written goes back into its vector
pub written_back : (n : ℕ) (old new : List Worker) → n ≡ length old → length new ≡ length old → take n (new ++ drop (length new) old) ≡ new
written_back n old new long same =
    let none : drop (length new) old ≡ [] = drop_all (length new) old (omega arith) in
    ap (λ (ws : List Worker). take n (new ++ ws)) none ∙ ap (take n) (append-nil new) ∙ take_all n new (omega arith)

pub done_workers : (vfs : Sharing) (plans : List (List Call)) (old slice new : List Worker) → AreWorkers vfs plans old → slice ≡ old → length new ≡ length slice
    → ((i : ℕ) (d : Worker) → i < length slice → Worked vfs (get_or slice i d) (get_or new i d)) → AreWorkers vfs plans new
done_workers vfs plans old slice new are same count each = still_workers vfs plans slice new (subst (AreWorkers vfs plans) (sym same) are) count each

-- the calls in the history and those that are left are each caller's plan
pub closed_calls : (vfs : Sharing) (plans left : List (List Call)) (n : ℕ) (seat : Seating) (history : List Entry) → HasGathered vfs plans n seat left
    → ((c : ℕ) → IsUpTo n c → made c seat ≡ Some (calls_of c history)) → (c : ℕ) → IsUpTo n c → calls_of c history ++ plan_at left c ≡ plan_at plans c
closed_calls vfs plans left n seat history gathered closed c up =
    let calls = gathered.calls c up in
    let same : calls_of c history ≡ calls.0 = ap (λ (o : Option (List Call)). unwrap_or o []) (sym (closed c up) ∙ calls.1) in
    ap (λ (t : List Call). t ++ plan_at left c) same ∙ calls.2
