-- The text of an inner entry: what a call needs to happen before it can be answered.
use Rattle.std.specs.Prelude.{ℕ, List, [], ◌∷◌, ◌++◌, codes, decimal}
use Rattle.call_model.specs.declared.entry.Ref.{Ref}
use Rattle.call_model.specs.declared.entry.Ref.TheVariants as ref
use Rattle.call_model.specs.declared.entry.Inner.{Inner}
use Rattle.call_model.specs.declared.entry.Inner.TheVariants as inner
use Rattle.script_text.specs.Word.{word_text}

-- a union mount, a directory in its upper layer and a name in that directory
abbrev pub union_name_text : ℕ → ℕ → List ℕ → List ℕ
union_name_text mount dir name = decimal mount ++ 32 ∷ [] ++ decimal dir ++ 32 ∷ [] ++ word_text name

-- a descriptor or a current directory, with its caller
abbrev pub ref_text : Ref → List ℕ
ref_text (ref.Fd caller fd) = decimal caller ++ codes " fd " ++ decimal fd
ref_text (ref.Cwd caller) = decimal caller ++ codes " cwd"

-- what happened
abbrev pub inner_text : Inner → List ℕ
inner_text (inner.Shadow mount dir name) = codes "shadow " ++ union_name_text mount dir name
inner_text (inner.CopyUp mount dir name) = codes "copyup " ++ union_name_text mount dir name
inner_text (inner.Detach mount) = codes "detach " ++ decimal mount
inner_text (inner.Doom at) = codes "doom " ++ ref_text at
