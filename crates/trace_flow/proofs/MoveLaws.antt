-- Bytes that go to a sink one part after the other.
use Rattle.std.proofs.Common.{◌≡◌, ℕ, ◌≤◌, List, [], ◌∷◌, ◌++◌, Option, sym, ap, ◌∙◌, subst, append_assoc, append-nil, arith, take, drop, take-append-drop, flat_map}
use Rattle.std.specs.Prelude.{Result, Ok, Err, IsErrAnd}
use Rattle.std.specs.Io.KnownBytes.{Appends}
use Rattle.std.proofs.KnownBytes.{Appends-nil, Appends-trans}
use Rattle.vfs_flow.specs.Faults.{Rose, next_word}
use Rattle.vfs_flow.specs.Whole.{WritesFront}
use Rattle.trace_flow.specs.declared.piece.Halt.{Halt}
use Rattle.trace_flow.specs.declared.piece.Halt.TheVariants as halt
use Rattle.trace_flow.specs.Moves.{Moves, Halts, Passes}

module _ {K : Type 0} (written : K → Option (List ℕ)) (faults : K → ℕ) where
  -- nothing has moved yet
  pub moves_start : (now : K) (bytes rest : List ℕ) → bytes ≡ rest → Moves written faults now now bytes rest
  moves_start now bytes rest same = record { front = []; put = Appends-nil (written now); split = same; later = omega arith }

  -- all of the bytes have moved
  pub moves_all : (old new : K) (bytes : List ℕ) → Appends (written old) (written new) bytes → faults old ≤ faults new → Moves written faults old new bytes []
  moves_all old new bytes put later = record { front = bytes; put = put; split = sym (append-nil bytes); later = later }

  -- a front of the bytes has moved
  pub moves_front : (old new : K) (bytes : List ℕ) (cause : Halt) → WritesFront (written old) (written new) bytes → faults old ≤ faults new → (cause ≡ halt.Failed → Rose (faults old) (faults new))
      → Halts written faults old new bytes cause
  moves_front old new bytes cause front later rose = record {
    rest = drop front.0 bytes;
    moved = record { front = take front.0 bytes; put = front.2; split = sym (take-append-drop front.0 bytes); later = later };
    rose = rose;
  }

  -- what was left moves on, behind it the text that isn't in the buffer yet
  pub moves_on : (old now new : K) (bytes buffer part next left left' : List ℕ) (buffer' : List ℕ) → Moves written faults old now bytes (buffer ++ left) → left ≡ part ++ left' → next ≡ buffer ++ part
      → Moves written faults now new next buffer' → Moves written faults old new bytes (buffer' ++ left')
  moves_on old now new bytes buffer part next left left' buffer' so_far splits grows moved =
      let behind : buffer ++ left ≡ moved.front ++ (buffer' ++ left') =
      ap (λ (t : List ℕ). buffer ++ t) splits ∙ sym (append_assoc buffer part left') ∙ ap (λ (t : List ℕ). t ++ left') (sym grows ∙ moved.split) ∙ append_assoc moved.front buffer' left'
      in
      record {
        front = so_far.front ++ moved.front;
        put = Appends-trans (written old) (written now) (written new) so_far.front moved.front so_far.put moved.put;
        split = so_far.split ∙ ap (λ (t : List ℕ). so_far.front ++ t) behind ∙ sym (append_assoc so_far.front moved.front (buffer' ++ left'));
        later = omega (arith, so_far.later, moved.later);
      }

  -- what was left comes to a halt
  pub halts_on : (old now new : K) (bytes buffer part next left left' : List ℕ) (cause : Halt) → Moves written faults old now bytes (buffer ++ left) → left ≡ part ++ left' → next ≡ buffer ++ part
      → Halts written faults now new next cause → Halts written faults old new bytes cause
  halts_on old now new bytes buffer part next left left' cause so_far splits grows halts = record {
    rest = halts.rest ++ left';
    moved = moves_on old now new bytes buffer part next left left' halts.rest so_far splits grows halts.moved;
    rose = λ failed. let more : next_word (faults now) ≤ faults new = halts.rose failed in let later : faults old ≤ faults now = so_far.later in omega arith;
  }

  -- no memory was found
  pub halts_here : (old now : K) (bytes rest : List ℕ) → Moves written faults old now bytes rest → Halts written faults old now bytes halt.NoMemory
  halts_here old now bytes rest so_far = record { rest = rest; moved = so_far; rose = λ failed. absurd cc }

  -- a part was put into the buffer
  pub moves_put : (old now : K) (bytes buffer part next left left' : List ℕ) → Moves written faults old now bytes (buffer ++ left) → left ≡ part ++ left' → next ≡ buffer ++ part → Moves written faults old now bytes (next ++ left')
  moves_put old now bytes buffer part next left left' so_far splits grows =
      let same : buffer ++ left ≡ next ++ left' = ap (λ (t : List ℕ). buffer ++ t) splits ∙ sym (append_assoc buffer part left') ∙ ap (λ (t : List ℕ). t ++ left') (sym grows) in
      subst (λ (t : List ℕ). Moves written faults old now bytes t) same so_far

  -- the same of other spellings of the bytes and of the rest
  pub moves_same : (old now : K) (bytes bytes' rest rest' : List ℕ) → bytes ≡ bytes' → rest ≡ rest' → Moves written faults old now bytes rest → Moves written faults old now bytes' rest'
  moves_same old now bytes bytes' rest rest' same also moved =
      subst (λ (t : List ℕ). Moves written faults old now bytes' t) also (subst (λ (t : List ℕ). Moves written faults old now t rest) same moved)

  -- what an error tells
  pub fails : {T : Type 0} (old now : K) (bytes rest : List ℕ) (cause : Halt) (result : Result T Halt) → IsErrAnd result (λ y. y ≡ cause) → Halts written faults old now bytes cause → Passes written faults old now bytes rest result
  fails old now bytes rest cause (Ok x) is halts = absurd is
  fails old now bytes rest cause (Err y) is halts = subst (λ (x : Halt). Halts written faults old now bytes x) (sym is) halts

  -- the text of the next of some items moves on
  pub item_on : {A : Type 0} (f : A → List ℕ) (old now new : K) (bytes buffer next buffer' : List ℕ) (items rest : List A) (x : A) → Moves written faults old now bytes (buffer ++ flat_map f items) → items ≡ x ∷ rest → next ≡ buffer ++ f x
      → Moves written faults now new next buffer' → Moves written faults old new bytes (buffer' ++ flat_map f rest)
  item_on f old now new bytes buffer next buffer' items rest x so_far first grows moved =
      moves_on old now new bytes buffer (f x) next (flat_map f items) (flat_map f rest) buffer' so_far (ap (λ l. flat_map f l) first) grows moved

  -- at the text of the next of some items it comes to a halt
  pub item_halts : {A : Type 0} (f : A → List ℕ) (old now new : K) (bytes buffer next : List ℕ) (items rest : List A) (x : A) (cause : Halt) → Moves written faults old now bytes (buffer ++ flat_map f items) → items ≡ x ∷ rest → next ≡ buffer ++ f x
      → Halts written faults now new next cause → Halts written faults old new bytes cause
  item_halts f old now new bytes buffer next items rest x cause so_far first grows halts =
      halts_on old now new bytes buffer (f x) next (flat_map f items) (flat_map f rest) cause so_far (ap (λ l. flat_map f l) first) grows halts
