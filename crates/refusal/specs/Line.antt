-- The text of a refusal, and of a buffer.
use Rattle.std.specs.Prelude.{ℕ, List, ◌++◌, codes, decimal}
use Rattle.refusal.specs.declared.Buffer.{Buffer}
use Rattle.refusal.specs.declared.Buffer.TheVariants.{Map, List as TheList, Secret, Answer, Store}
use Rattle.refusal.specs.declared.Refusal.{Refusal}
use Rattle.refusal.specs.Numbers.{numbers_of}

-- `refused`, number, layer and place, with a space before each
abbrev pub line : Refusal → List ℕ
line r = codes "refused " ++ (decimal (numbers_of r).0 ++ (codes " " ++ (decimal (numbers_of r).1 ++ (codes " " ++ decimal (numbers_of r).2))))

abbrev pub name_of : Buffer → List ℕ
name_of Map = codes "map"
name_of TheList = codes "list"
name_of Secret = codes "secret"
name_of Answer = codes "answer"
name_of Store = codes "store"
