-- The number, layer and place of each refusal. Assumes nothing.
use Rattle.std.specs.Prelude.{ℕ}
use Rattle.refusal.specs.declared.Layer.{Layer}
use Rattle.refusal.specs.declared.Layer.TheVariants.{Packing, Suite, Signature, Watch, Bundle, Identification}
use Rattle.refusal.specs.declared.Buffer.{Buffer}
use Rattle.refusal.specs.declared.Buffer.TheVariants.{Map, List, Secret, Answer, Store}
use Rattle.refusal.specs.declared.Refusal.{Refusal}
use Rattle.refusal.specs.declared.Refusal.TheVariants.{BadSet, MessageTooLong, BufferLength, WatchFull, SlotNotUsed, ChallengeOutOfRange, KeyLength, KeyElement, SignatureLength, Element, Pad, NotAccepted, BundleHeader, BundleLayout, BundleItem, SuiteLimit, TooFewElements, OutOfTurn}

-- the layers, from packing upward
abbrev pub layer_of : Layer → ℕ
layer_of Packing = 1
layer_of Suite = 2
layer_of Signature = 3
layer_of Watch = 4
layer_of Bundle = 5
layer_of Identification = 6

-- the place of a buffer whose length is wrong
abbrev pub buffer_of : Buffer → ℕ
buffer_of Map = 1
buffer_of List = 2
buffer_of Secret = 3
buffer_of Answer = 4
buffer_of Store = 5

-- number, layer and place; a place that says nothing is 0
abbrev pub numbers_of : Refusal → ℕ × ℕ × ℕ
numbers_of BadSet = (1, 3, 0)
numbers_of MessageTooLong = (2, 3, 0)
numbers_of (BufferLength layer buffer) = (3, layer_of layer, buffer_of buffer)
numbers_of WatchFull = (4, 4, 0)
numbers_of SlotNotUsed = (5, 4, 0)
numbers_of ChallengeOutOfRange = (6, 6, 0)
numbers_of KeyLength = (7, 3, 0)
numbers_of (KeyElement index) = (8, 1, index)
numbers_of SignatureLength = (9, 3, 0)
numbers_of (Element place) = (10, 1, place)
numbers_of (Pad place) = (11, 1, place)
numbers_of NotAccepted = (12, 3, 0)
numbers_of (BundleHeader place) = (13, 5, place)
numbers_of (BundleLayout item) = (14, 5, item)
numbers_of (BundleItem item) = (15, 5, item)
numbers_of (SuiteLimit label) = (16, 2, label)
numbers_of (TooFewElements label) = (17, 2, label)
numbers_of (OutOfTurn layer) = (18, layer_of layer, 0)
