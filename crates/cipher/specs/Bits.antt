-- Eight bytes as a word, and a word as eight bytes, for the layers above.
pub use Rattle.engine.specs.Bits.{word, bytes}
