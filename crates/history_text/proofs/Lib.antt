mod FileLaws
mod HistoryLaws
mod JudgedLaws
mod Lists
mod OwnerLaws
