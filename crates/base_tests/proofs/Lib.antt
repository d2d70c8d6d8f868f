mod FittingLemmas
mod PairLemmas
