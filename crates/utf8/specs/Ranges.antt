-- The ranges of letterlike characters by number, in the order in which `Letterlike` names them; ends excluded on the right.
use Rattle.std.specs.Prelude.{ℕ, zero, suc, Bool}
use Rattle.utf8.specs.Utf8.{within}

unfoldable pub in_range : ℕ → ℕ → Bool
in_range zero c = within 0x3b1 0x3c9 c
in_range (suc zero) c = within 0x391 0x3a9 c
in_range (suc (suc zero)) c = within 0x1f00 0x1ffe c
in_range (suc (suc (suc zero))) c = within 0x3ca 0x3fb c
in_range (suc (suc (suc (suc zero)))) c = within 0x2100 0x214f c
in_range (suc (suc (suc (suc (suc zero))))) c = within 0x2080 0x2089 c
in_range (suc (suc (suc (suc (suc (suc zero)))))) c = within 0x2090 0x209c c
in_range (suc (suc (suc (suc (suc (suc (suc k))))))) c = within 0x1d62 0x1d6a c
