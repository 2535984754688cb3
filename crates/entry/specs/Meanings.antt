-- What the entries of each kind mean, and which entry a quantity has.
use Rattle.std.specs.Prelude.{ℕ, pos, neg_ℤ}
use Rattle.entry.specs.declared.source.Source.{Source}
use Rattle.entry.specs.declared.source.Source.TheVariants.{Conventional, Incentivised}
use Rattle.entry.specs.declared.kinds.Net.{Net}
use Rattle.entry.specs.declared.kinds.BySource.{BySource}
use Rattle.entry.specs.declared.kinds.Turnover.{Turnover}
use Rattle.entry.specs.Kinds.{Kind}
use Rattle.entry.specs.Words.{Word, word, word_of, plus, Words, no_words, plus_both}

-- net: one number, the quantity of either source
abbrev pub net_value : Net → Word
net_value n = word_of n.units

abbrev pub net_of : ℕ → Source → Net
net_of q s = record { units = pos q }

abbrev pub net_opposed : Net → Net
net_opposed n = record { units = neg_ℤ n.units }

abbrev pub net_kind : Kind Word
net_kind = record { nothing = word 0; join = plus; sold = λ q s. net_value (net_of q s); bought = λ q s. net_value (net_opposed (net_of q s)) }

-- by source: the quantity under its own source, and 0 under the other
abbrev pub by_source_value : BySource → Words
by_source_value b = (word_of b.conventional, word_of b.incentivised)

abbrev pub by_source_of : ℕ → Source → BySource
by_source_of q Conventional = record { conventional = pos q; incentivised = pos 0 }
by_source_of q Incentivised = record { conventional = pos 0; incentivised = pos q }

abbrev pub by_source_opposed : BySource → BySource
by_source_opposed b = record { conventional = neg_ℤ b.conventional; incentivised = neg_ℤ b.incentivised }

abbrev pub by_source_kind : Kind Words
by_source_kind = record { nothing = no_words; join = plus_both; sold = λ q s. by_source_value (by_source_of q s); bought = λ q s. by_source_value (by_source_opposed (by_source_of q s)) }

-- turnover: what was sold, and what was bought
abbrev pub turnover_value : Turnover → Words
turnover_value t = (word t.sold, word t.bought)
