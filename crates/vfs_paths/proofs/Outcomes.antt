-- What a call answers, where it has memory.
use Rattle.std.proofs.Common.{◌≡◌, ◌∙◌}
use Rattle.std.specs.Prelude.{Result, Ok, Err, IfOk}

-- where an answer leads, said otherwise
pub leads : {T E A : Type 0} (r : Result T E) (f : T → A) (x y : A) → x ≡ y → IfOk r (λ v. f v ≡ x) → IfOk r (λ v. f v ≡ y)
leads (Ok v) f x y same is = is ∙ same
leads (Err e) f x y same is = tt

-- an answer, said otherwise
pub answers : {T E : Type 0} (r : Result T E) (x y : T) → x ≡ y → IfOk r (λ v. v ≡ x) → IfOk r (λ v. v ≡ y)
answers r x y same is = leads r (λ v. v) x y same is
