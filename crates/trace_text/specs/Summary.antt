-- The summary of a history and of the world that it leaves.
use Rattle.std.specs.Prelude.{◌≡◌, ℕ, Bool, true, false, ◌&&◌, not, ◌==◌, List, [], ◌∷◌, ◌++◌, length, codes, decimal, is_some}
use Rattle.std.specs.List.{count_by, list_any}
use Rattle.std.specs.Set.{distinct_count}
use Rattle.std.specs.FinMap.{len, get}
use Rattle.vfs_tree.specs.declared.world.World.{World}
use Rattle.call_model.specs.declared.entry.Entry.{Entry}
use Rattle.call_model.specs.declared.entry.Entry.TheVariants as entry
use Rattle.call_model.specs.declared.reply.Reply.{Reply}
use Rattle.call_model.specs.declared.reply.Reply.TheVariants as reply
use Rattle.call_model.specs.Legal.{is_no_memory}
use Rattle.trace_text.specs.declared.summary.Counts.{Counts}

-- whether the reply is an error
abbrev pub is_error : Reply → Bool
is_error (reply.Fail errno) = true
is_error _ = false

-- whether the entry is that of a call
abbrev pub is_call : Entry → Bool
is_call (entry.Call caller call reply) = true
is_call (entry.Inner caller what) = false

-- whether the entry is an inner one
abbrev pub is_inner : Entry → Bool
is_inner (entry.Call caller call reply) = false
is_inner (entry.Inner caller what) = true

-- whether the entry is that of a call that was done
abbrev pub is_done : Entry → Bool
is_done (entry.Call caller call reply) = not (is_error reply)
is_done (entry.Inner caller what) = false

-- whether the entry is that of a call that was refused, for another cause than want of memory
abbrev pub is_refused : Entry → Bool
is_refused (entry.Call caller call reply) = is_error reply && not (is_no_memory reply)
is_refused (entry.Inner caller what) = false

-- whether the entry is that of a call that found no memory
abbrev pub lacks_memory : Entry → Bool
lacks_memory (entry.Call caller call reply) = is_no_memory reply
lacks_memory (entry.Inner caller what) = false

-- the caller of each call entry
abbrev pub callers_of : List Entry → List ℕ
callers_of [] = []
callers_of (entry.Call caller call reply ∷ entries) = caller ∷ callers_of entries
callers_of (entry.Inner caller what ∷ entries) = callers_of entries

-- the counts are those of the entries
pub record AreCounts (counts : Counts) (entries : List Entry) : Type 0 where
  pub calls : counts.calls ≡ count_by is_call entries
  pub callers : (caller : ℕ) → is_some (get counts.callers caller) ≡ list_any (λ c. caller == c) (callers_of entries)
  pub done : counts.done ≡ count_by is_done entries
  pub refused : counts.refused ≡ count_by is_refused entries
  pub no_memory : counts.no_memory ≡ count_by lacks_memory entries
  pub inner : counts.inner ≡ count_by is_inner entries

-- a line of the summary: what is counted, and how many there are
unfoldable pub count_text : List ℕ → ℕ → List ℕ
count_text what n = what ++ 32 ∷ decimal n ++ 10 ∷ []

-- how many calls there are, callers with a call, and calls that were done, that were refused and that found no memory
abbrev pub calls_text : ℕ → ℕ → ℕ → ℕ → ℕ → List ℕ
calls_text calls callers done refused no_memory =
    count_text (codes "calls") calls ++ count_text (codes "callers") callers ++ count_text (codes "ok") done
    ++ count_text (codes "error") refused ++ count_text (codes "nomemory") no_memory

-- how many inner entries there are, entries in all, and mounts at the end
abbrev pub rest_text : ℕ → ℕ → ℕ → List ℕ
rest_text inner all mounts = count_text (codes "inner") inner ++ count_text (codes "entries") all ++ count_text (codes "mounts") mounts ++ codes "end\n"

-- the summary of a history and of the world that it leaves
abbrev pub summary_text : List Entry → World → List ℕ
summary_text entries world =
    calls_text (count_by is_call entries) (distinct_count (λ a b. a == b) (callers_of entries)) (count_by is_done entries) (count_by is_refused entries) (count_by lacks_memory entries)
    ++ rest_text (count_by is_inner entries) (length entries) (len world.mounts)
