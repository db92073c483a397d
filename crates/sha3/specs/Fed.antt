-- The bytes of an input: its message, in three parts, and the filling of its last block.
use Rattle.std.specs.Prelude.{ℕ, List, ◌++◌}
use Rattle.sha3.specs.declared.message.Message.{Message}
use Rattle.sha3.specs.declared.input.Input.{Input}
use Rattle.sha3.specs.Padding.{filling}

-- three parts of a message, one after another
abbrev pub joint : List ℕ → List ℕ → List ℕ → List ℕ
joint label head tail = label ++ (head ++ tail)

abbrev pub said : Message → List ℕ
said m = joint m.label.now m.head.now m.tail.now

abbrev pub fed : Input → List ℕ
fed i = said i.message ++ filling i.filling.suffix i.filling.q
