-- An output that goes to a sink: its first line f, its entries h, the line t between, its trees r, and its last line l.
use Rattle.std.proofs.Common.{◌≡◌, ℕ, ◌≤◌, List, [], ◌++◌, Option, refl, sym, ap, ◌∙◌, subst, append_assoc, append-nil, arith, length, take, length-append}
use Rattle.std.specs.Prelude.{Result, Ok, Err}
use Rattle.std.specs.Io.KnownBytes.{Appends}
use Rattle.std.proofs.Math.Seq.{take-append_seam}
use Rattle.vfs_flow.specs.Whole.{WritesFront}
use Rattle.trace_flow.specs.declared.piece.Halt.{Halt}
use Rattle.trace_flow.specs.Moves.{Moves, Halts, Passes}
use Rattle.trace_flow.proofs.MoveLaws.{moves_start, moves_on, halts_on, moves_put}

module _ {K : Type 0} (written : K → Option (List ℕ)) (faults : K → ℕ) where
  -- the first line is in the buffer
  first : (now : K) (f h t r l buffer : List ℕ) → buffer ≡ f → Moves written faults now now (f ++ h ++ t ++ r ++ l) (buffer ++ (h ++ (t ++ (r ++ l))))
  first now f h t r l buffer is =
      let grouped : f ++ h ++ t ++ r ++ l ≡ f ++ (h ++ (t ++ (r ++ l))) = simp append_assoc in
      moves_start written faults now (f ++ h ++ t ++ r ++ l) (buffer ++ (h ++ (t ++ (r ++ l)))) (grouped ∙ ap (λ (x : List ℕ). x ++ (h ++ (t ++ (r ++ l)))) (sym is))

  -- the entries, by another spelling, went on
  pub entries_done : (old new : K) (f h t r l buffer part buffer' : List ℕ) → buffer ≡ f → part ≡ h → Moves written faults old new (buffer ++ part) buffer' → Moves written faults old new (f ++ h ++ t ++ r ++ l) (buffer' ++ (t ++ (r ++ l)))
  entries_done old new f h t r l buffer part buffer' is same moved =
      moves_on written faults old old new (f ++ h ++ t ++ r ++ l) buffer part (buffer ++ part) (h ++ (t ++ (r ++ l))) (t ++ (r ++ l)) buffer' (first old f h t r l buffer is) (ap (λ (x : List ℕ). x ++ (t ++ (r ++ l))) (sym same)) refl moved

  pub entries_halt : (old new : K) (f h t r l buffer part : List ℕ) (cause : Halt) → buffer ≡ f → part ≡ h → Halts written faults old new (buffer ++ part) cause → Halts written faults old new (f ++ h ++ t ++ r ++ l) cause
  entries_halt old new f h t r l buffer part cause is same halts =
      halts_on written faults old old new (f ++ h ++ t ++ r ++ l) buffer part (buffer ++ part) (h ++ (t ++ (r ++ l))) (t ++ (r ++ l)) cause (first old f h t r l buffer is) (ap (λ (x : List ℕ). x ++ (t ++ (r ++ l))) (sym same)) refl halts

  -- the line between was put into the buffer, and the trees went on
  pub trees_done : (old now new : K) (bytes t r l buffer next buffer' : List ℕ) → Moves written faults old now bytes (buffer ++ (t ++ (r ++ l))) → next ≡ buffer ++ t → Moves written faults now new (next ++ r) buffer' → Moves written faults old new bytes (buffer' ++ l)
  trees_done old now new bytes t r l buffer next buffer' so_far grows moved =
      moves_on written faults old now new bytes next r (next ++ r) (r ++ l) l buffer' (moves_put written faults old now bytes buffer t next (t ++ (r ++ l)) (r ++ l) so_far refl grows) refl refl moved

  pub trees_halt : (old now new : K) (bytes t r l buffer next : List ℕ) (cause : Halt) → Moves written faults old now bytes (buffer ++ (t ++ (r ++ l))) → next ≡ buffer ++ t → Halts written faults now new (next ++ r) cause → Halts written faults old new bytes cause
  trees_halt old now new bytes t r l buffer next cause so_far grows halts =
      halts_on written faults old now new bytes next r (next ++ r) (r ++ l) l cause (moves_put written faults old now bytes buffer t next (t ++ (r ++ l)) (r ++ l) so_far refl grows) refl refl halts

  -- what is in the buffer at the end went on
  rest_passes : {T : Type 0} (old now new : K) (bytes buffer : List ℕ) (result : Result T Halt) → Moves written faults old now bytes (buffer ++ []) → Passes written faults now new buffer [] result → Passes written faults old new bytes [] result
  rest_passes old now new bytes buffer (Ok x) so_far moved = moves_on written faults old now new bytes buffer [] buffer [] [] [] so_far refl (sym (append-nil buffer)) moved
  rest_passes old now new bytes buffer (Err y) so_far halts = halts_on written faults old now new bytes buffer [] buffer [] [] y so_far refl (sym (append-nil buffer)) halts

  pub end_passes : {T : Type 0} (old now new : K) (bytes l buffer next : List ℕ) (result : Result T Halt) → Moves written faults old now bytes (buffer ++ l) → next ≡ buffer ++ l → Passes written faults now new next [] result → Passes written faults old new bytes [] result
  end_passes old now new bytes l buffer next result so_far grows passes =
      rest_passes old now new bytes next result (moves_put written faults old now bytes buffer l next l [] so_far (sym (append-nil l)) grows) passes

  -- where nothing is left, all was written
  pub moves_whole : (old new : K) (bytes : List ℕ) → Moves written faults old new bytes [] → Appends (written old) (written new) bytes
  moves_whole old new bytes moved = subst (λ (x : List ℕ). Appends (written old) (written new) x) (sym (moved.split ∙ append-nil moved.front)) moved.put

  -- at a halt a front was written
  pub halts_front : (old new : K) (bytes : List ℕ) (cause : Halt) → Halts written faults old new bytes cause → WritesFront (written old) (written new) bytes
  halts_front old new bytes cause halts =
      let front = halts.moved.front in
      let within : length front ≤ length bytes = omega (arith, ap length halts.moved.split, length-append front halts.rest) in
      let cut : take (length front) bytes ≡ front = ap (λ (x : List ℕ). take (length front) x) halts.moved.split ∙ take-append_seam front halts.rest in
      (length front, within, subst (λ (x : List ℕ). Appends (written old) (written new) x) (sym cut) halts.moved.put)
