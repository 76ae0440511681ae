-- Accounts as flat numbers, and accounts from them.
use Rattle.std.specs.Prelude.{Bool, false}
use Rattle.accounting.specs.declared.Asked.{Asked}
use Rattle.accounting.specs.declared.Posted.{Posted}
use Rattle.exports.specs.declared.accounts.FlatAsked.{FlatAsked}
use Rattle.exports.specs.declared.accounts.FlatPosted.{FlatPosted}
use Rattle.flat.specs.Flat.{flat_accounts}
use Rattle.numbers.specs.Refusals.{told, value_or, refusal_in}

abbrev pub flat_posted : Posted → FlatPosted
flat_posted p = record { refusal = refusal_in p.answer; accounts = flat_accounts p.accounts }

-- Whether the bytes fit; a refused question answers no.
abbrev pub fits_in : Asked → Bool
fits_in p = value_or false (told p.answer)

abbrev pub flat_asked : Asked → FlatAsked
flat_asked p = record { refusal = refusal_in p.answer; fits = fits_in p; accounts = flat_accounts p.accounts }
