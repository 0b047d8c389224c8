mod SumLaws
mod Fitting
mod SortedRefs
mod BegunLaws
mod CountLaws
