use Rattle.std.proofs.Common.{◌≡◌, ◌+◌, ◌-◌, ◌<◌, ◌++◌, length, take, drop, ap, sym, ◌∙◌, arith}
use Rattle.std.proofs.lemmas.List.{length-take-le}
use Rattle.vfs_tree.specs.Bytes.{resize_bytes, write_bytes}
use Rattle.mem_file.specs.Paste.{paste}
use Rattle.mem_file.proofs.Filled.{front_filled, write_filled, length-written, write_some}
use Rattle.mem_file.proofs.file.MemFile.write_at.Goals as goal

pub returns-then-not-is_empty-clause-bytes : goal.returns-then-not-is_empty-clause-bytes
returns-then-not-is_empty-clause-bytes c =
    let bytes = c.args.bytes.now in
    let at = c.args.at in
    let pages = c.self.inside.pages in
    let old = take c.self.inside.len pages in
    let z = length pages - c.self.inside.len in
    let long : length old ≡ c.self.inside.len = length-take-le c.self.inside.len pages (omega arith) in
    let same : old ≡ c.args.self.now.bytes = ap (λ x. x.bytes) c.self.view_is in
    let reserved : c.self.inside.reserved ≡ c.args.self.now.reserved = ap (λ x. x.reserved) c.self.view_is in
    let some : 0 < length bytes = grind arith in
    let front = resize_bytes old at ++ bytes ++ drop (at + length bytes) old in
    front_filled c.put.new.self front c.max-self-inside.result (z - (at + length bytes - length old))
    (c.put.ensures ∙ ap (λ x. paste x at bytes) c.self.invariant.filled ∙ write_filled old bytes z at (omega arith))
    (length-written old bytes at ∙ omega (arith, c.max-self-inside.ensures))
    ∙ sym (write_some old bytes at some)
    ∙ ap (λ x. write_bytes x at bytes) same
