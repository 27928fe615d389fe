mod PredicateLaws
mod WindowLaws
mod AccessLaws
mod TransferLaws
