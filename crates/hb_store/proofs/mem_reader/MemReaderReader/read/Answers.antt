use Rattle.std.proofs.Common.{◌+◌, ◌++◌, drop, refl, ap₂, ◌∙◌, sym}
use Rattle.std.proofs.lemmas.List.{take-append-drop, drop-drop}
use Rattle.hb_store.proofs.mem_reader.MemReaderReader.read.Goals as goal

pub returns-clause-bytes : goal.returns-clause-bytes
returns-clause-bytes c =
    let place = c.args.self.now.place in
    let count = c.copy_from-count.result in
    let bytes = c.args.self.now.bytes.items in
    let copied = rw c.deref.ensures.value at c.copy_from-count.ensures.bytes in
    (drop (place + count) bytes, sym (take-append-drop count (drop place bytes)) ∙ ap₂ (λ front back. front ++ back) (sym copied) (drop-drop count place bytes), refl)
