-- Every history of a script has numbers of at most 64 bits, so that its output has no other one.
use Rattle.std.proofs.Common.{◌≡◌, ℕ, List, [], ◌∷◌, refl, sym, subst}
use Rattle.std.specs.Prelude.{Option, Some, None}
use Rattle.std.specs.FinMap.{empty}
use Rattle.std.specs.List.{AllByRecursion}
use Rattle.vfs_tree.specs.Start.{start_world}
use Rattle.vfs_tree.specs.declared.world.World.{World}
use Rattle.call_model.specs.Effects.{effect}
use Rattle.call_model.specs.Legal.{IsNeeded, IsLegalFrom, doomers_after, next_call, after}
use Rattle.call_model.specs.Rows.{row}
use Rattle.call_model.specs.declared.call.Call.{Call}
use Rattle.call_model.specs.declared.entry.Entry.{Entry}
use Rattle.call_model.specs.declared.entry.Entry.TheVariants as entry
use Rattle.call_model.specs.declared.entry.Inner.{Inner}
use Rattle.script_text.specs.declared.script.Script.{Script}
use Rattle.trace_text.specs.Bounded.{IsBounded, IsBoundedInner, IsBoundedEntry}
use Rattle.trace_text.specs.Output.{output_text}
use Rattle.call_laws.proofs.NeededLaws.{whole-needed}
use Rattle.call_laws.proofs.PlaceLaws.{lasting-start}
use Rattle.call_laws.proofs.SoundLaws.{sound-start}
use Rattle.call_laws.proofs.Whole.{IsWhole}
use Rattle.call_laws.proofs.WorldLaws.{whole-call, row_needs}
use Rattle.output_laws.specs.Runs.{IsRunOf}
use Rattle.output_laws.proofs.AnswerNumbers.{reply_few, keyed-call}
use Rattle.output_laws.proofs.HistoryLines.{output_same}
use Rattle.output_laws.proofs.KeyLaws.{AreKeyed, keyed-inner, keyed-start}
use Rattle.output_laws.proofs.NeedNumbers.{need_few}
use Rattle.output_laws.proofs.ScriptNumbers.{HasFew, lines_few, few_first, few_behind, next_few}

-- what an inner entry is, and what it leaves
record IsFewInner (w : World) (c : ℕ) (x : Inner) : Type 0 where
  pub caller : IsBounded c
  pub what : IsBoundedInner x
  pub whole : IsWhole (effect w c x)

inner_few : (w : World) (c : ℕ) (x : Inner) (es : List Entry) → IsWhole w → AreKeyed w → HasFew es → (o : Option Call) → next_call empty c es ≡ o → IsNeeded w c o x → IsFewInner w c x
inner_few w c x es h keys few (Some call) is needs =
    let wants = row_needs w (row w c call) x needs in
    record { caller = next_few c call es few is; what = need_few w h keys c call x wants; whole = whole-needed w c call x wants h }
inner_few w c x es h keys few None is needs = absurd needs

entries_few : (doomers : List ℕ) (w : World) (es : List Entry) → IsLegalFrom empty doomers w es → IsWhole w → AreKeyed w → HasFew es → AllByRecursion IsBoundedEntry es
entries_few doomers w [] legal h keys few = tt
entries_few doomers w (entry.Call c call r ∷ es) legal h keys few =
    let e = entry.Call c call r in
    let own = few_first c call r es few in (
      (own.0, own.1, reply_few w h c own.0 keys call doomers r legal.0),
      entries_few (doomers_after doomers e) (after w e) es legal.1 (whole-call w c r h call) (keyed-call w h c own.0 keys call r) (few_behind c call r es few),
    )
entries_few doomers w (entry.Inner c x ∷ es) legal h keys few =
    let rest : HasFew es = record { each = few.each } in
    let own = inner_few w c x es h keys rest (next_call empty c es) refl legal.0 in
    ((own.caller, own.what), entries_few (doomers_after doomers (entry.Inner c x)) (effect w c x) es legal.1 own.whole (keyed-inner w c x keys) rest)

-- a history of a script has such numbers
pub history_few : (script : Script) (es : List Entry) → IsRunOf script es → AllByRecursion IsBoundedEntry es
history_few script es run =
    let limits = script.limits in
    let lawful = run.can.limits in
    entries_few [] (start_world limits) es run.legal (record { sound = sound-start limits; lasts = lasting-start limits }) (keyed-start limits lawful.few_callers)
    (record { each = λ c. subst (AllByRecursion _) (sym (run.calls c)) (lines_few limits.callers lawful.few_callers c script.lines run.can.each) })

-- outputs of the same bytes have the same history
pub one_history : (script other : Script) (es fs : List Entry) (w v : World) → IsRunOf script es → IsRunOf other fs → output_text es w ≡ output_text fs v → es ≡ fs
one_history script other es fs w v run more e = output_same es fs w v (history_few script es run) (history_few other fs more) e
