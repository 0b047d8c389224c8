mod AllPushed
