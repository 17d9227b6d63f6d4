-- The lines of the entries that are left.
use Rattle.std.proofs.Common.{◌≡◌, ℕ, ◌+◌, ◌<◌, List, ◌∷◌, ◌++◌, sym, ap, ◌∙◌, length, get_or, drop, add-one, drop-cons}
use Rattle.call_model.specs.declared.entry.Entry.{Entry}
use Rattle.trace_text.specs.History.{entry_line, history_text}

pub next_line : (entries : List Entry) (i : ℕ) (entry : Entry) → i < length entries → entry ≡ get_or entries i entry → history_text (drop i entries) ≡ entry_line entry ++ history_text (drop (i + 1) entries)
next_line entries i entry within is =
    let first : drop i entries ≡ get_or entries i entry ∷ drop (i + 1) entries = rw add-one (drop-cons entries i entry within) in
    ap history_text first ∙ ap (λ e. entry_line e ++ history_text (drop (i + 1) entries)) (sym is)
